-- The acts of routers that ask nothing of a link word.
use Rattle.std.specs.Prelude.{Bool, true, false}
use Rattle.ipcz_router.specs.declared.act.RouterAct.{RouterAct}
use Rattle.ipcz_router.specs.declared.act.RouterAct.TheVariants as acts

-- whether an act touches no link word
abbrev pub is_wordless : RouterAct → Bool
is_wordless acts.Mark = false
is_wordless acts.Wake = false
is_wordless acts.Claim = false
is_wordless acts.Lock = false
is_wordless acts.Unlock = false
is_wordless other = true
