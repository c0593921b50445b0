-- That the text of an event tells which event it is, as a function promises it.
use Rattle.std.specs.Prelude.{◌≡◌}
use Rattle.ipcz_base.specs.declared.link_id.LinkId.{LinkId}
use Rattle.ipcz_base.specs.declared.link_id.LinkId.TheVariants.{Central, Peripheral}
use Rattle.ipcz_node.specs.declared.happened.Handed.{Handed}
use Rattle.ipcz_node.specs.declared.happened.Handed.TheVariants as kinds
use Rattle.ipcz_node.specs.declared.happened.Happened.{Happened}
use Rattle.ipcz_node.specs.declared.happened.Happened.TheVariants as events
use Rattle.ipcz_script.specs.EventTexts.{event_text}
use Rattle.ipcz_script.specs.SendLines.{HavePairs}
use Rattle.ipcz_script.specs.Sayings.{HasBits}

-- numbers have 64 bits: those of a link,
abbrev pub LinkHasBits : LinkId → Type 0
LinkHasBits (Central word) = HasBits word
LinkHasBits (Peripheral node serial) = HasBits node × HasBits serial

-- of a message
abbrev pub KindHasBits : Handed → Type 0
KindHasBits (kinds.Item n) = HasBits n
KindHasBits other = Unit {0}

-- and of an event
abbrev pub EventHasBits : Happened → Type 0
EventHasBits (events.Hand kind link unfit) = KindHasBits kind × LinkHasBits link
EventHasBits (events.Look sender) = HasBits sender
EventHasBits (events.Post to) = HasBits to
EventHasBits (events.Close end) = HasBits end.pair
EventHasBits (events.SendOut serial n link moved) = HasBits serial × HasBits n × LinkHasBits link × HavePairs moved
EventHasBits (events.SendIn serial n link moved) = HasBits serial × HasBits n × LinkHasBits link × HavePairs moved
EventHasBits (events.Discard serial n) = HasBits serial × HasBits n
EventHasBits (events.DiscardLeave serial n) = HasBits serial × HasBits n
EventHasBits (events.FinishOut serial link) = HasBits serial × LinkHasBits link
EventHasBits (events.FinishIn serial link) = HasBits serial × LinkHasBits link
EventHasBits (events.Leave serial) = HasBits serial
EventHasBits (events.Mark serial link word) = HasBits serial × LinkHasBits link × HasBits word
EventHasBits (events.Wake serial link word) = HasBits serial × LinkHasBits link × HasBits word
EventHasBits (events.Claim serial word) = HasBits serial × HasBits word
EventHasBits (events.ClaimNoWord serial) = HasBits serial
EventHasBits (events.Lock serial link word) = HasBits serial × LinkHasBits link × HasBits word
EventHasBits (events.Wait serial link word) = HasBits serial × LinkHasBits link × HasBits word
EventHasBits (events.Refused serial link word) = HasBits serial × LinkHasBits link × HasBits word
EventHasBits (events.Begin serial link) = HasBits serial × LinkHasBits link
EventHasBits (events.Retire serial n link) = HasBits serial × HasBits n × LinkHasBits link
EventHasBits (events.Unlock serial link word) = HasBits serial × LinkHasBits link × HasBits word
EventHasBits (events.Rest serial) = HasBits serial
EventHasBits events.Idle = Unit {0}

-- law: events that print alike are one
abbrev pub TextsAreOneEvent : Type 0
TextsAreOneEvent = (e f : Happened) → EventHasBits e → EventHasBits f → event_text e ≡ event_text f → e ≡ f
