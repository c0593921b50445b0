-- A put that is doomed puts nothing in any session.
use Rattle.std.proofs.Common.{◌≡◌, ◌⊎◌, ◌∙◌, ◌||◌, ◌&&◌, ℕ, suc, Bool, true, false, not, if◌then◌else◌, nat_lt, List, [], ◌∷◌, length, Option, Some, None, is_some, IfSome, inl, inr, refl, ap, sym, subst}
use Rattle.std.specs.Prelude.{bytes_eq, option_and_then, option_map}
use Rattle.std.specs.FinMap.{get}
use Rattle.std.specs.List.{list_any}
use Rattle.std.proofs.lemmas.Slice.Eq.{bytes_eq-Decides}
use Rattle.ipcz_base.specs.declared.end.End.{End}
use Rattle.ipcz_base.specs.declared.profile.Profile.TheVariants.{Printed}
use Rattle.ipcz_base.specs.declared.refusal.Refusal.{Refusal}
use Rattle.ipcz_base.specs.declared.refusal.Refusal.TheVariants.{Stranger, TooMany, BadData, SelfAttach, PeerAttach}
use Rattle.ipcz_base.specs.Ends.{same_end, has_end}
use Rattle.ipcz_base.specs.Limits.{is_printable, takes_bytes}
use Rattle.ipcz_node.specs.Node.{Node, holds_end}
use Rattle.ipcz_node.specs.Calls.{are_held_once, are_too_many, put_refusal}
use Rattle.ipcz_world.specs.declared.step.Reply.{Reply}
use Rattle.ipcz_world.specs.declared.step.Reply.TheVariants as replies
use Rattle.ipcz_world.specs.declared.step.Step.TheVariants as steps
use Rattle.ipcz_world.specs.Holding.{holder_of}
use Rattle.ipcz_world.specs.Steps.{first_step, unless}
use Rattle.ipcz_world.specs.World.{World, node_at}
use Rattle.ipcz_world.proofs.facts.LinkTests.{same_end-itself}
use Rattle.ipcz_script.specs.declared.said.Said.TheVariants as said
use Rattle.ipcz_script.specs.Each.{each_of}
use Rattle.ipcz_script.specs.Sessions.{Session, answer_to, ends_of, if_held, if_known, replied_at, replied_step}
use Rattle.ipcz_report.specs.declared.doom.Doom.{Doom}
use Rattle.ipcz_report.specs.Dooms.{applies, has_twice, is_doomed, IsRefusedInEachRun}

-- ---- lists of names, and of their ends

each-more : {X Y : Type 0} (f : X → Option Y) (x : X) (xs : List X) (ys : List Y) → each_of f (x ∷ xs) ≡ Some ys →
    (y : Y) × (rest : List Y) × (f x ≡ Some y) × (each_of f xs ≡ Some rest) × (ys ≡ y ∷ rest)
each-more {X} {Y} f x xs ys all = go (f x) refl (each_of f xs) refl all
  where
    go : (o : Option Y) → f x ≡ o → (r : Option (List Y)) → each_of f xs ≡ r → option_and_then (λ y. option_map (λ l. y ∷ l) r) o ≡ Some ys →
        (y : Y) × (rest : List Y) × (f x ≡ Some y) × (each_of f xs ≡ Some rest) × (ys ≡ y ∷ rest)
    go None h r k e = absurd (cc e)
    go (Some y) h None k e = absurd (cc e)
    go (Some y) h (Some rest) k e = (y, rest, h, k, cc e)

each-length : {X Y : Type 0} (f : X → Option Y) (xs : List X) (ys : List Y) → each_of f xs ≡ Some ys → length ys ≡ length xs
each-length f [] [] all = refl
each-length f [] (y ∷ ys) all = absurd (cc all)
each-length f (x ∷ xs) ys all = let m = each-more f x xs ys all in ap length m.4 ∙ ap suc (each-length f xs m.1 m.3)

or_right : (a b : Bool) → b ≡ true → (a || b) ≡ true
or_right true b h = refl
or_right false b h = h

has-step : (f : List ℕ → Option End) (name x : List ℕ) (e d : End) (xs : List (List ℕ)) (rest : List End) (b : Bool) →
    f name ≡ Some e → f x ≡ Some d → bytes_eq name x ≡ b → (b || list_any (bytes_eq name) xs) ≡ true →
    (list_any (bytes_eq name) xs ≡ true → has_end e rest ≡ true) → has_end e (d ∷ rest) ≡ true
has-step f name x e d xs rest true is there same has more =
    let one : name ≡ x = (bytes_eq-Decides name x).0 same in
    let end : d ≡ e = cc (is, there, ap f one) in
    ap (λ c. c || has_end e rest) (ap (λ z. same_end z e) end ∙ same_end-itself e)
has-step f name x e d xs rest false is there same has more = or_right (same_end d e) (has_end e rest) (more has)

-- a name among others has its end among theirs
each-has : (f : List ℕ → Option End) (name : List ℕ) (e : End) (names : List (List ℕ)) (es : List End) → f name ≡ Some e →
    each_of f names ≡ Some es → list_any (bytes_eq name) names ≡ true → has_end e es ≡ true
each-has f name e [] es is all has = absurd (cc has)
each-has f name e (x ∷ xs) es is all has =
    let m = each-more f x xs es all in
    subst (λ l. has_end e l ≡ true) (sym m.4)
    (has-step f name x e m.0 xs m.1 (bytes_eq name x) is m.2 refl has (λ h. each-has f name e xs m.1 is m.3 h))

held-step : (held has once : Bool) → ((has ≡ true) ⊎ (once ≡ false)) → (held && (not has && once)) ≡ false
held-step false has once why = refl
held-step true true once why = refl
held-step true false once (inl h) = absurd (cc h)
held-step true false once (inr h) = h

or-cases : (a b : Bool) → (a || b) ≡ true → (a ≡ true) ⊎ (b ≡ true)
or-cases true b h = inl refl
or-cases false b h = inr h

either : {A B C D : Type 0} → (A → C) → (B → D) → A ⊎ B → C ⊎ D
either f g (inl a) = inl (f a)
either f g (inr b) = inr (g b)

-- the ends of names of which one stands twice aren't held once each
twice-held : (n : Node) (f : List ℕ → Option End) (names : List (List ℕ)) (es : List End) → each_of f names ≡ Some es → has_twice names ≡ true →
    are_held_once n es ≡ false
twice-held n f [] es all twice = absurd (cc twice)
twice-held n f (x ∷ xs) es all twice =
    let m = each-more f x xs es all in
    subst (λ l. are_held_once n l ≡ false) (sym m.4)
    (held-step (holds_end n m.0) (has_end m.0 m.1) (are_held_once n m.1)
    (either (λ h. each-has f x m.0 xs m.1 m.2 m.3 h) (λ h. twice-held n f xs m.1 m.3 h) (or-cases (list_any (bytes_eq x) xs) (has_twice xs) twice)))

-- ---- the refusal

-- what a node refuses whatever it holds
abbrev IsRefusable : Bool → Bool → Bool → Bool → Type 0
IsRefusable many takes self once = (many ≡ true) ⊎ (takes ≡ false) ⊎ (self ≡ true) ⊎ (once ≡ false)

refusal-is : (held many takes self peer once : Bool) (rest : Option Refusal) → IsRefusable many takes self once →
    is_some (if not held then Some Stranger else if many then Some TooMany else if not takes then Some BadData else if self then Some SelfAttach
    else if peer then Some PeerAttach else if not once then Some Stranger else rest) ≡ true
refusal-is false many takes self peer once rest why = refl
refusal-is true true takes self peer once rest why = refl
refusal-is true false false self peer once rest why = refl
refusal-is true false true true peer once rest why = refl
refusal-is true false true false true once rest why = refl
refusal-is true false true false false false rest why = refl
refusal-is true false true false false true rest (inl h) = absurd (cc h)
refusal-is true false true false false true rest (inr (inl h)) = absurd (cc h)
refusal-is true false true false false true rest (inr (inr (inl h))) = absurd (cc h)
refusal-is true false true false false true rest (inr (inr (inr h))) = absurd (cc h)

five-cases : (a b c d e : Bool) → (a || b || c || d || e) ≡ true → (a ≡ true) ⊎ (b ≡ true) ⊎ (c ≡ true) ⊎ (d ≡ true) ⊎ (e ≡ true)
five-cases true b c d e h = inl refl
five-cases false true c d e h = inr (inl refl)
five-cases false false true d e h = inr (inr (inl refl))
five-cases false false false true e h = inr (inr (inr (inl refl)))
five-cases false false false false true h = inr (inr (inr (inr refl)))
five-cases false false false false false h = absurd (cc h)

not-takes : (b : Bool) → not b ≡ true → b ≡ false
not-takes false h = refl
not-takes true h = absurd (cc h)

-- a node refuses a put that is doomed, whatever the names are bound to
node-refuses : (at text : List ℕ) (names : List (List ℕ)) (f : List ℕ → Option End) (e : End) (es : List End) (n : Node) → f at ≡ Some e →
    each_of f names ≡ Some es → is_doomed at text names ≡ true → is_some (put_refusal Printed n e text es) ≡ true
unfolding put_refusal
node-refuses at text names f e es n is all doomed = refusal-is _ _ _ _ _ _ _ (why (five-cases _ _ _ _ _ doomed))
  where
    why : (nat_lt 256 (length text) ≡ true) ⊎ (nat_lt 8 (length names) ≡ true) ⊎ (not (is_printable text) ≡ true)
        ⊎ (list_any (bytes_eq at) names ≡ true) ⊎ (has_twice names ≡ true) →
        IsRefusable (are_too_many Printed text es) (takes_bytes Printed text) (has_end e es) (are_held_once n es)
    why (inl h) = inl (ap (λ c. c || nat_lt 8 (length es)) h)
    why (inr (inl h)) = inl (or_right (nat_lt 256 (length text)) (nat_lt 8 (length es)) (ap (nat_lt 8) (each-length f names es all) ∙ h))
    why (inr (inr (inl h))) = inr (inl (not-takes (is_printable text) h))
    why (inr (inr (inr (inl h)))) = inr (inr (inl (each-has f at e names es is all h)))
    why (inr (inr (inr (inr h)))) = inr (inr (inr (twice-held n f names es all h)))

-- ---- the session

refused-said : (w v : World) (c : Bool) (o : Option Refusal) (reply : Reply) (k : ℕ) → is_some o ≡ true →
    answer_to (if c then unless w o (record { reply = reply; world = v }) else record { reply = replies.Refused Stranger; world = w }).reply ≡ said.Put k →
    ⊥
unfolding unless answer_to
refused-said w v true None reply k some put = cc some
refused-said w v true (Some why) reply k some put = cc put
refused-said w v false o reply k some put = cc put

step-nothing : (w : World) (n k : ℕ) (e : End) (text : List ℕ) (es : List End) → is_some (put_refusal Printed (node_at w n) e text es) ≡ true →
    answer_to (first_step w (steps.Put n e text es)).reply ≡ said.Put k → ⊥
unfolding first_step
step-nothing w n k e text es some put = refused-said w _ (nat_lt n w.count) (put_refusal Printed (node_at w n) e text es) (replies.Put _) k some put

held-nothing : (s : Session) (k : ℕ) (e : End) (text : List ℕ) (es : List End) → ((n : Node) → is_some (put_refusal Printed n e text es) ≡ true) →
    (o : Option ℕ) → (if_held s o (λ node. replied_step s (first_step s.world (steps.Put node e text es)))).said ≡ said.Put k → ⊥
unfolding if_held
held-nothing s k e text es refused None put = cc put
held-nothing s k e text es refused (Some node) put = step-nothing s.world node k e text es (refused (node_at s.world node)) put

ends-nothing : (s : Session) (k : ℕ) (at text : List ℕ) (names : List (List ℕ)) (e : End) → is_doomed at text names ≡ true → get s.names at ≡ Some e →
    (o : Option (List End)) → ends_of s.names names ≡ o →
    (if_known s o (λ es. replied_at s e (λ node. steps.Put node e text es))).said ≡ said.Put k → ⊥
unfolding if_known
ends-nothing s k at text names e doomed is None all put = cc put
ends-nothing s k at text names e doomed is (Some es) all put =
    held-nothing s k e text es (λ n. node-refuses at text names (get s.names) e es n is all doomed) (holder_of s.world e) put

at-nothing : (s : Session) (k : ℕ) (at text : List ℕ) (names : List (List ℕ)) → is_doomed at text names ≡ true → (o : Option End) → get s.names at ≡ o →
    (if_known s o (λ e. if_known s (ends_of s.names names) (λ es. replied_at s e (λ node. steps.Put node e text es)))).said ≡ said.Put k → ⊥
unfolding if_known
at-nothing s k at text names doomed None is put = cc put
at-nothing s k at text names doomed (Some e) is put = ends-nothing s k at text names e doomed is (ends_of s.names names) refl put

puts_nothing : (at text : List ℕ) (names : List (List ℕ)) → is_doomed at text names ≡ true → IsRefusedInEachRun at text names
puts_nothing at text names doomed s k put = at-nothing s k at text names doomed (get s.names at) refl put

-- so does each put of which it is told why
pub if_doomed : (o : Option Doom) (at text : List ℕ) (names : List (List ℕ)) → is_some o ≡ is_doomed at text names →
    IfSome o (λ doom. applies doom at text names ≡ true) → IfSome o (λ doom. IsRefusedInEachRun at text names)
if_doomed None at text names is why = why
if_doomed (Some doom) at text names is why = puts_nothing at text names (sym is)
