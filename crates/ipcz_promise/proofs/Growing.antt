-- A world that has more words stands at accounts that have so many more, and waits for nothing if it did not before.
use Rattle.std.specs.Prelude.{◌≡◌, ◌+◌, ℕ, Result, Ok, Err, OnErr, OnOk}
use Rattle.std.proofs.Common.{ap, subst, sym}
use Rattle.ipcz_world.specs.Books.{Books}
use Rattle.ipcz_world.specs.HeldEnds.{grown}
use Rattle.ipcz_world.specs.Lawful.{Lawful}
use Rattle.ipcz_world.specs.Routes.{Routes}
use Rattle.ipcz_world.specs.Settling.{IsQuiet}
use Rattle.ipcz_world.specs.World.{node_at, mail_at}
use Rattle.ipcz_world.proofs.Vocabulary.{World}
use Rattle.ipcz_promise.specs.Promise.{Account, more_words}
use Rattle.ipcz_promise.specs.Accounting.{Keeps, Stands}

-- the world is lawful with the same books and routes
abbrev pub StaysLawful : World → World → Type 0
StaysLawful w v = (b : Books) → (g : Routes) → Lawful w b g → Lawful v b g

grown-stands : (w : World) (a : Account) (count : ℕ) → StaysLawful w (grown w count) → Stands w a → Stands (grown w count) (more_words a count)
unfolding node_at
grown-stands w a count lawful k = record {
  books = k.books;
  routes = k.routes;
  lawful = lawful k.books k.routes k.lawful;
  nodes = k.nodes;
  opened = k.opened;
  holder = k.holder;
  real = k.real;
  put = k.put;
  got = k.got;
  closed = k.closed;
  pending = record { ungot = k.pending.ungot; closes = k.pending.closes };
}

grown-keeps : (w : World) (a : Account) (count : ℕ) → StaysLawful w (grown w count) → Keeps w a → Keeps (grown w count) (more_words a count)
grown-keeps w a count lawful k = record { stands = grown-stands w a count lawful k.stands; words = ap (λ n. n + count) k.words }

grown-quiet : (w : World) (count : ℕ) → IsQuiet w → IsQuiet (grown w count)
unfolding node_at mail_at
grown-quiet w count quiet = record { nodes = quiet.nodes; mail = quiet.mail }

-- the same of results
pub words-promised : {X E : Type 0} (w v : World) (count : ℕ) (r : Result X E) → OnOk r (v ≡ grown w count) → OnOk r (StaysLawful w v) →
    OnOk r ((a : Account) → Keeps w a → Keeps v (more_words a count))
words-promised w v count (Ok x) is lawful = λ a k. subst (λ u. Keeps u (more_words a count)) (sym is)
    (grown-keeps w a count (subst (λ u. StaysLawful w u) is lawful) k)
words-promised w v count (Err e) is lawful = tt

pub words-claimed : {X E : Type 0} (w v : World) (count : ℕ) (r : Result X E) → OnOk r (v ≡ grown w count) → OnErr r (v ≡ w) →
    v.claimed ≡ w.claimed
words-claimed w v count (Ok x) is same = ap (λ (u : World). u.claimed) is
words-claimed w v count (Err e) is same = ap (λ (u : World). u.claimed) same

pub words-quiet : {X E : Type 0} (w v : World) (count : ℕ) (r : Result X E) → OnOk r (v ≡ grown w count) → OnErr r (v ≡ w) →
    IsQuiet w → IsQuiet v
words-quiet w v count (Ok x) is same quiet = subst IsQuiet (sym is) (grown-quiet w count quiet)
words-quiet w v count (Err e) is same quiet = subst IsQuiet (sym same) quiet
