-- A log that is allowed is a run of the world's steps.
use Rattle.std.specs.Prelude.{◌++◌, ℕ, List, [], ◌∷◌, refl}
use Rattle.std.proofs.Common.{sym, subst}
use Rattle.ipcz_world.specs.declared.step.Step.TheVariants.{Turn}
use Rattle.ipcz_world.specs.declared.step.Reply.TheVariants.{Turned}
use Rattle.ipcz_world.specs.Books.{Books, advance, no_books}
use Rattle.ipcz_world.specs.Lawful.{IsReached}
use Rattle.ipcz_world.specs.Routes.{Routes, first_routes, routes_after}
use Rattle.ipcz_world.specs.World.{World, new_world}
use Rattle.ipcz_world.proofs.WholeTheorem.{the_theorem_holds}
use Rattle.ipcz_world.proofs.code.Asked.{acted-step}
use Rattle.ipcz_script.specs.ScriptBooks.{parcels_in}
use Rattle.ipcz_script.specs.Sessions.{Session, new_session}
use Rattle.ipcz_script.proofs.ScriptRuns.{Kept, kept-command, kept-start, run-more}
use Rattle.ipcz_events.specs.declared.entry.Entry.{Entry}
use Rattle.ipcz_events.specs.declared.entry.Entry.TheVariants as entries
use Rattle.ipcz_events.specs.Rules.{AllowedAreRuns, MayEntry, MayLog}

-- a world that some list of steps leads to
record Comes (nodes words : ℕ) (w : World) : Type 0 where
  pub books : Books
  pub routes : Routes
  pub reached : IsReached nodes words w books routes

entry_comes : (nodes words : ℕ) (s t : Session) (entry : Entry) → Comes nodes words s.world → MayEntry s entry t → Comes nodes words t.world
entry_comes nodes words s t (entries.Call command line) at may =
    let kept : Kept nodes words s.world (λ e. parcels_in (at.books.put e)) at.books.got =
    record { books = at.books; routes = at.routes; reached = at.reached; put = λ e. refl; got = λ e. refl } in
    let behind = kept-command nodes words s (λ e. parcels_in (at.books.put e)) at.books.got kept command may.0 t may.2 in
    record { books = behind.books; routes = behind.routes; reached = behind.reached }
entry_comes nodes words s t (entries.Acted node text) at may = record {
  books = advance s.world at.books (Turn node) (Turned may.1);
  routes = routes_after s.world at.routes (Turn node) (Turned may.1);
  reached = record {
    limits = at.reached.limits;
    steps = at.reached.steps ++ Turn node ∷ [];
    replies = at.reached.replies ++ Turned may.1 ∷ [];
    run = run-more (new_world nodes words) no_books (first_routes nodes) at.reached.steps at.reached.replies s.world at.books at.routes at.reached.run
        (Turn node) (Turned may.1) t.world (acted-step s.world t.world node may.0 may.1 may.3);
  };
}

log_comes : (nodes words : ℕ) (log : List Entry) (s t : Session) → Comes nodes words s.world → MayLog s log t → Comes nodes words t.world
log_comes nodes words [] s t at may = subst (λ (u : Session). Comes nodes words u.world) (sym may) at
log_comes nodes words (e ∷ log) s t at may = log_comes nodes words log may.0 t (entry_comes nodes words s may.0 e at may.1) may.2

pub allowed_are_runs : AllowedAreRuns
allowed_are_runs nodes words log limits allowed =
    let start = kept-start nodes words limits in
    let behind = log_comes nodes words log (new_session nodes words) allowed.0
    (record { books = start.books; routes = start.routes; reached = start.reached }) allowed.1 in
    record {
      session = allowed.0;
      may = allowed.1;
      books = behind.books;
      routes = behind.routes;
      reached = behind.reached;
      theorem_ = the_theorem_holds nodes words behind.reached.steps behind.reached.replies allowed.0.world behind.books behind.routes limits.world
          behind.reached.run;
    }
