-- What gets give once a settle has settled, as functions promise it.
use Rattle.std.specs.Prelude.{◌≡◌, ℕ, true, Some, None, List, [], ◌∷◌, ◌++◌, length, slice_get}
use Rattle.std.specs.FinMap.{get}
use Rattle.ipcz_base.specs.declared.end.End.{End}
use Rattle.ipcz_base.specs.declared.refusal.Refusal.TheVariants.{Empty, PeerClosed}
use Rattle.ipcz_base.specs.Ends.{opposite_end}
use Rattle.ipcz_world.specs.World.{World}
use Rattle.ipcz_world.specs.Holding.{holder_of}
use Rattle.ipcz_world.specs.Books.{Books, is_closed}
use Rattle.ipcz_world.specs.Routes.{Routes}
use Rattle.ipcz_world.specs.Owed.{IsWet}
use Rattle.ipcz_world.specs.Lawful.{IsReached}
use Rattle.ipcz_script.specs.ScriptLimits.{HasScriptLimits}
use Rattle.ipcz_script.specs.declared.command.Command.{Command}
use Rattle.ipcz_script.specs.declared.command.Command.TheVariants as commands
use Rattle.ipcz_script.specs.declared.said.Said.{Said}
use Rattle.ipcz_script.specs.declared.said.Said.TheVariants as said
use Rattle.ipcz_script.specs.Sessions.{Session, Runs, new_session}
use Rattle.ipcz_script.specs.Transcript.{Answered, AreAnswered}
use Rattle.ipcz_script.specs.ScriptBooks.{AreSaid, puts_in, gots_in}

-- a settle that has settled
pub record HasSettled (a : Answered) : Type 0 where
  pub limit : ℕ
  pub command : a.command ≡ commands.Settle limit
  pub said : a.said ≡ said.Settled

-- each of these commands is a get
abbrev pub AreGets : List Answered → Type 0
AreGets [] = Unit {0}
AreGets (a ∷ rest) = ((name : List ℕ) × (a.command ≡ commands.Get name)) × AreGets rest

-- an end has got all that its peer has put
abbrev pub HasGotAll : List Answered → End → Type 0
HasGotAll log e = gots_in log e ≡ puts_in log (opposite_end e)

-- what a get at an end is answered, if nothing of what its peer has put is on its way any more: the peer's next parcel; that there is none,
-- only if all was got, and that the peer is closed only if it is; or that nobody holds the end, as one that lies in a parcel
unfoldable pub GivesNext : World → Books → List Answered → End → Said → Type 0
GivesNext w b log e (said.Got n p) = slice_get (puts_in log (opposite_end e)) (length (gots_in log e)) ≡ Some p
GivesNext w b log e (said.Refused Empty) = HasGotAll log e
GivesNext w b log e (said.Refused PeerClosed) = HasGotAll log e × (is_closed b (opposite_end e) ≡ true)
GivesNext w b log e said.Away = holder_of w e ≡ None
GivesNext w b log e other = ⊥

-- each get at a name that is bound to an end is answered so
abbrev pub GetsGiveNext : Session → Books → List Answered → Type 0
GetsGiveNext s b log =
    (name : List ℕ) (e : End) (answer : Said) (t : Session) → get s.names name ≡ Some e → Runs s (commands.Get name) answer t →
    GivesNext s.world b log e answer

-- law: if a settle has settled, only gets were run behind it, and no router has found the link words used up, each get gives what the
-- peer has put, in order, to the last
abbrev pub SettledGetsGiveAll : Type 0
SettledGetsGiveAll =
    (nodes words : ℕ) (cs : List Command) (earlier : List Answered) (settle : Answered) (gets : List Answered) (s : Session) →
    HasScriptLimits nodes words → AreAnswered (new_session nodes words) cs (earlier ++ settle ∷ gets) s →
    HasSettled settle → AreGets gets → IsWet s.world →
    (b : Books) × (g : Routes) × AreSaid b (earlier ++ settle ∷ gets) × IsReached nodes words s.world b g ×
    GetsGiveNext s b (earlier ++ settle ∷ gets)
