-- The law of ends, from the invariant: the ends of open pairs have places, and those alone.
use Rattle.std.specs.Prelude.{◌≡◌, ℕ, Bool, true, false, cond, ◌&&◌, nat_eq, refl}
use Rattle.std.proofs.Common.{arith, ap, sym, ◌∙◌}
use Rattle.std.proofs.lemmas.Bool.Decides.{nat_tests}
use Rattle.ipcz_world.proofs.Vocabulary.{End, Central, World, Books, Records, is_linked, is_nowhere, side_end, Inv, end_at, has_mark, routes_of}
use Rattle.ipcz_world.specs.Plain.{IsUnwritten}
use Rattle.ipcz_world.specs.Routes.{is_opened}
use Rattle.ipcz_world.specs.Laws.{EndLaw}
use Rattle.ipcz_world.proofs.frames.RecordRules.{is_recorded-central}

-- nothing if it is so, else one; and the other way round
abbrev none_if : Bool → ℕ
none_if c = cond c 0 1

abbrev one_if : Bool → ℕ
one_if c = cond c 1 0

module _ (w : World) (b : Books) (g : Records) (law : Inv w b g) where
  -- an end whose pair isn't open has no place
  unopened_nowhere : (e : End) → is_opened (routes_of g) e.pair ≡ false → is_nowhere (g.terminal e) ≡ true
  unopened_nowhere e f = go (is_linked (g.owner e.pair)) refl
    where
      go : (c : Bool) → is_linked (g.owner e.pair) ≡ c → is_nowhere (g.terminal e) ≡ true
      go false m = law.terminals.unopened e m
      go true m = law.terminals.other_pair e m (sym (ap (λ c. c && nat_eq (g.central e.pair).pair e.pair) m) ∙ f)

  -- one whose pair is open has one
  opened_somewhere : (e : End) → is_opened (routes_of g) e.pair ≡ true → is_nowhere (g.terminal e) ≡ false
  unfolding side_end
  opened_somewhere e f =
      let t = both (is_linked (g.owner e.pair)) (nat_eq (g.central e.pair).pair e.pair) f in
      let own : (g.central e.pair).pair ≡ e.pair = grind (arith, nat_tests, t.1) in
      sym (ap (λ i. is_nowhere (g.terminal (end_at i e.side))) own) ∙ law.terminals.link_opened (Central e.pair) e.side
      (is_recorded-central w g e.pair ∙ t.0)
    where
      both : (a c : Bool) → (a && c) ≡ true → (a ≡ true) × (c ≡ true)
      both true c e = (refl, e)
      both false c e = cc

  place_of_end : (e : End) → none_if (is_nowhere (g.terminal e)) ≡ one_if (is_opened (routes_of g) e.pair)
  place_of_end e = go (is_opened (routes_of g) e.pair) refl
    where
      go : (c : Bool) → is_opened (routes_of g) e.pair ≡ c → none_if (is_nowhere (g.terminal e)) ≡ one_if c
      go true f = ap none_if (opened_somewhere e f)
      go false f = ap none_if (unopened_nowhere e f)

  unwritten : (e : End) → is_opened (routes_of g) e.pair ≡ false → IsUnwritten b e
  unwritten e f =
      let n = unopened_nowhere e f in
      let put = law.conserved.unopened_put e n in
      record { put = put; got = law.conserved.unopened_got e n; gone = law.conserved.gone_closed e (ap has_mark put) }

  pub end_law : EndLaw w b (routes_of g)
  end_law = record {
    once = λ e. law.held_once.once e ∙ place_of_end e;
    unopened = unwritten;
    moving = law.held_once.moves_in_parcel;
    mark_last = λ e n is. let last = law.books_kept.mark_last e n is in omega (arith, last);
    gone_last = λ e n is. let last = law.books_kept.gone_last e n is in omega (arith, last);
    retired_closed = law.books_kept.retired_closed;
  }
