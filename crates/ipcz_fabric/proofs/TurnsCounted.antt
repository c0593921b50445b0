-- The number of a caller's turns is the one that its work answers.
use Rattle.std.specs.Prelude.{MatchBool}
use Rattle.std.proofs.Common.{◌≡◌, ◌+◌, ℕ, zero, suc, Bool, true, false, List, [], ◌∷◌, ◌++◌, Ok, Err, refl, ap, arith}
use Rattle.ipcz_rule.specs.declared.history.Call.{Call}
use Rattle.ipcz_rule.specs.declared.history.Call.TheVariants as calls
use Rattle.ipcz_rule.specs.declared.history.CallerView.{CallerView}
use Rattle.ipcz_rule.specs.declared.history.Entry.{Entry}
use Rattle.ipcz_rule.specs.declared.retry.Retry.{Retry}
use Rattle.ipcz_rule.specs.Histories.{entry_of}
use Rattle.ipcz_cell.specs.TableNames.{TableName}
use Rattle.ipcz_fabric.specs.Hubs.{ExtendsByTurn, is_idle}
use Rattle.ipcz_fabric.specs.Replays.{Extends}
use Rattle.ipcz_fabric.specs.Workers.{Answer, IsWorkOf, Works, counted, ends_work, turn_in, turns_among}

among_more : (es fs : List Entry) → turns_among (es ++ fs) ≡ turns_among es + turns_among fs
among_more [] fs = omega (arith)
among_more (e ∷ es) fs = let rest = among_more es fs in omega (arith, rest)

-- a call more is a turn more, if it is one
called_more : (t : TableName) (node : ℕ) (call : Call) (c d : CallerView) → Extends t node call c d → turns_among d.mine ≡ turns_among c.mine + turn_in call
called_more t node call c d h =
    let is : turns_among d.mine ≡ turns_among (c.mine ++ entry_of node c.id call ∷ []) = ap (λ (x : CallerView). turns_among x.mine) h.after in
    let more : turns_among (c.mine ++ entry_of node c.id call ∷ []) ≡ turns_among c.mine + (turn_in call + 0) = among_more c.mine (entry_of node c.id call ∷ []) in
    omega (arith, is, more)

again_more : (t : TableName) (node : ℕ) (c d e : CallerView) (idle : Bool) → MatchBool idle ((found : Retry) × Extends t node (calls.Retried found) d e) (e ≡ d) →
    turns_among e.mine ≡ turns_among d.mine
again_more t node c d e true h = let again : turns_among e.mine ≡ turns_among d.mine + 0 = called_more t node (calls.Retried h.0) d e h.1 in omega (arith, again)
again_more t node c d e false h = ap (λ (x : CallerView). turns_among x.mine) h

turned_more : (t : TableName) (node : ℕ) (a : Answer) (c d : CallerView) → ExtendsByTurn t node a c d → turns_among d.mine ≡ turns_among c.mine + turn_in (calls.Turned a)
turned_more t node a c d h =
    let first = called_more t node (calls.Turned a) c h.0 h.1 in
    let again = again_more t node c h.0 d (is_idle a) h.2 in
    omega (arith, first, again)

-- an answer that ends the work isn't counted
last_counted : (turns : ℕ) (a : Answer) → ends_work a ≡ true → counted turns a ≡ turns
last_counted turns (Ok event) last = cc
last_counted turns (Err why) last = refl

one_turn : (a : Answer) → ends_work a ≡ false → turn_in (calls.Turned a) ≡ 1
one_turn a more = rw more refl

no_turn : (a : Answer) → ends_work a ≡ true → turn_in (calls.Turned a) ≡ 0
no_turn a last = rw last refl

module _ (t : TableName) (node : ℕ) (Answers : ℕ → ℕ → Bool → Type 0) where
  abbrev Goes : ℕ → ℕ → CallerView → ℕ → CallerView → Type 0
  Goes = Works {S = CallerView} (λ d turns may e. Answers node turns may × (e ≡ d)) (λ d a e. ExtendsByTurn t node a d e) ends_work

  module _ (left turns number : ℕ) (d : CallerView)
      (others : (e : CallerView) → Goes left (turns + 1) e number d → turns_among d.mine + (turns + 1) ≡ turns_among e.mine + number) where
    ended : (e : CallerView) (a : Answer) (last : Bool) → ends_work a ≡ last → MatchBool last ((number ≡ counted turns a) × (d ≡ e)) (Goes left (turns + 1) e number d) →
        turns_among d.mine + turns + turn_in (calls.Turned a) ≡ turns_among e.mine + number
    ended e a true is h =
        let none = no_turn a is in
        let all = last_counted turns a is in
        let number_is = h.0 in
        let same = ap (λ (x : CallerView). turns_among x.mine) h.1 in
        omega (arith, none, all, number_is, same)
    ended e a false is h = let one = one_turn a is in let more = others e h in omega (arith, one, more)

    went : (c : CallerView) (may : Bool) →
        MatchBool may ((a : Answer) × (e : CallerView) × ExtendsByTurn t node a c e × MatchBool (ends_work a) ((number ≡ counted turns a) × (d ≡ e)) (Goes left (turns + 1) e number d))
        ((number ≡ turns) × (d ≡ c)) → turns_among d.mine + turns ≡ turns_among c.mine + number
    went c true h =
        let turn = turned_more t node h.0 c h.1 h.2 in
        let rest = ended h.1 h.0 (ends_work h.0) refl h.3 in
        omega (arith, turn, rest)
    went c false h =
        let number_is = h.0 in
        let same = ap (λ (x : CallerView). turns_among x.mine) h.1 in
        omega (arith, number_is, same)

  goes_counted : (left turns : ℕ) (c : CallerView) (number : ℕ) (d : CallerView) → Goes left turns c number d → turns_among d.mine + turns ≡ turns_among c.mine + number
  goes_counted zero turns c number d works =
      let number_is = works.0 in
      let same = ap (λ (x : CallerView). turns_among x.mine) works.1 in
      omega (arith, number_is, same)
  goes_counted (suc left) turns c number d works =
      let same = ap (λ (x : CallerView). turns_among x.mine) works.2.1 in
      let rest = went left turns number d (λ e more. goes_counted left (turns + 1) e number d more) works.1 works.0 works.3 in
      omega (arith, same, rest)

-- a caller's work is as many turns more of its own as it answers
pub turns_counted : (t : TableName) (node : ℕ) (Answers : ℕ → ℕ → Bool → Type 0) (limit : ℕ) (c : CallerView) (number : ℕ) (d : CallerView) →
    IsWorkOf t node Answers limit c number d → turns_among d.mine ≡ turns_among c.mine + number
turns_counted t node Answers limit c number d works = let all = goes_counted t node Answers limit 0 c number d works in omega (arith, all)
