-- The statuses that C gets: 0, the code of a refusal, or one of this library's own.
use Rattle.std.specs.Prelude.{ℕ}
use Rattle.ipcz_base.specs.Refusals.{code_of}
use Rattle.ipcz_world.specs.declared.step.Reply.{Reply}
use Rattle.ipcz_world.specs.declared.step.Reply.TheVariants as replies

-- the status of a reply
unfoldable pub status_of : Reply → ℕ
status_of (replies.Refused why) = code_of why
status_of reply = 0

-- a get was given too little room
abbrev pub too_small : ℕ
too_small = 100

-- the handle has no world
abbrev pub not_created : ℕ
not_created = 101

-- the handle has a world already
abbrev pub already_created : ℕ
already_created = 102
