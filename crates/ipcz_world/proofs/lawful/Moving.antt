-- Messages stay under way, whatever acts are taken: but the one that is handed over.
use Rattle.std.specs.Prelude.{◌≡◌, ◌⊎◌, ◌<◌, ℕ, zero, suc, ◌+◌, ◌*◌, Bool, true, false, cond, nat_eq, Some}
use Rattle.std.specs.Prelude.{List, [], ◌∷◌, ◌++◌, slice_get, refl}
use Rattle.std.proofs.Common.{arith, ap, sym, ◌∙◌, subst, inl, inr}
use Rattle.std.proofs.lemmas.Bool.Decides.{nat_tests}
use Rattle.std.proofs.lemmas.Option.{same_Some}
use Rattle.ipcz_world.proofs.facts.Tests.{nat_eq-itself}
use Rattle.ipcz_world.proofs.Vocabulary.{Message, Node, outbox, World, node_at, mail_at, way, flow, messages_in, IsUnderWay, set_node, set_mail}
use Rattle.ipcz_world.proofs.Vocabulary.{with_outbox, Mail}
use Rattle.ipcz_base.proofs.Indexed.{place_at-put_place}
use Rattle.ipcz_world.specs.declared.mail.Mail.TheVariants as mails
use Rattle.ipcz_world.proofs.frames.Frames.{node-set_node, node-set_mail, mail-set_mail, mail-set_node, count-set_node, count-set_mail}
use Rattle.ipcz_world.proofs.frames.Changing.{flow_is}
use Rattle.ipcz_world.proofs.frames.Handing.{way_tells}
use Rattle.ipcz_world.proofs.lawful.Going.{Keeps}

-- each message under way stays so, or is lost in this way
abbrev pub Stays : (ℕ → ℕ → Message → Type 0) → World → World → Type 0
Stays Lost w v = (a c j : ℕ) (m : Message) → IsUnderWay w a c j m → ((i : ℕ) × IsUnderWay v a c i m) ⊎ Lost a c m

-- in no way
abbrev pub Never : ℕ → ℕ → Message → Type 0
Never a c m = ⊥

in-both : {X : Type 0} (xs ys zs : List X) → ((j : ℕ) (x : X) → slice_get ys j ≡ Some x → slice_get zs j ≡ Some x) → (j : ℕ) (x : X) →
    slice_get (xs ++ ys) j ≡ Some x → slice_get (xs ++ zs) j ≡ Some x
in-both [] ys zs f j x h = f j x h
in-both (y ∷ xs) ys zs f zero x h = h
in-both (y ∷ xs) ys zs f (suc j) x h = in-both xs ys zs f j x h

-- if one node sends more and mailboxes are as they were
pub stays-node : (w v : World) (n : ℕ) (x : Node) → v.count ≡ w.count → ((j : ℕ) → node_at v j ≡ cond (nat_eq j n) x (node_at w j)) →
    ((k : ℕ) → mail_at v k ≡ mail_at w k) → Keeps (node_at w n) x → Stays Never w v
stays-node w v n x count nodes mail keeps a c j m u = inl (
  j,
  record {
    sender = subst (λ z. a < z) (sym count) u.sender;
    receiver = subst (λ z. c < z) (sym count) u.receiver;
    place = subst (λ ms. slice_get ms j ≡ Some m) (sym (flow_is v a c))
        (subst (λ y. slice_get (messages_in y ++ outbox (node_at v a) c) j ≡ Some m) (sym box)
        (in-both (messages_in (mail_at w (way w a c))) (outbox (node_at w a) c) (outbox (node_at v a) c) (more (nat_eq a n) refl) j m
        (subst (λ ms. slice_get ms j ≡ Some m) (flow_is w a c) u.place)));
  },
)
  where
    box : mail_at v (way v a c) ≡ mail_at w (way w a c)
    box = ap (λ z. mail_at v (a * z + c)) count ∙ mail (way w a c)

    more : (t : Bool) → nat_eq a n ≡ t → (j : ℕ) (y : Message) → slice_get (outbox (node_at w a) c) j ≡ Some y →
        slice_get (outbox (node_at v a) c) j ≡ Some y
    more true e j y h =
        let same : a ≡ n = grind (arith, e, nat_tests) in
        ap (λ z. slice_get (outbox z c) j) (nodes a ∙ ap (λ t. cond t x (node_at w a)) e)
        ∙ keeps c j y (ap (λ z. slice_get (outbox (node_at w z) c) j) (sym same) ∙ h)
    more false e j y h = ap (λ z. slice_get (outbox z c) j) (nodes a ∙ ap (λ t. cond t x (node_at w a)) e) ∙ h

-- if one way's mailbox and outbox change together
module _ (w : World) (n : ℕ) (x : Node) (f t : ℕ) (y : Mail) (lt : t < w.count) where
  abbrev v : World
  v = set_mail (set_node w n x) (way w f t) y

  count : v.count ≡ w.count
  count = count-set_mail (set_node w n x) (way w f t) y ∙ count-set_node w n x

  nodes : (j : ℕ) → node_at v j ≡ cond (nat_eq j n) x (node_at w j)
  nodes j = node-set_mail (set_node w n x) (way w f t) y j ∙ node-set_node w n x j

  mail : (k : ℕ) → mail_at v k ≡ cond (nat_eq k (way w f t)) y (mail_at w k)
  mail k = mail-set_mail (set_node w n x) (way w f t) y k ∙ ap (cond (nat_eq k (way w f t)) y) (mail-set_node w n x k)

  mail_way : (a c : ℕ) → mail_at v (way v a c) ≡ cond (nat_eq (way w a c) (way w f t)) y (mail_at w (way w a c))
  mail_way a c = ap (λ z. mail_at v (a * z + c)) count ∙ mail (way w a c)

  apart : (a c : ℕ) → c < w.count → ((a ≡ f) → (c ≡ t) → ⊥) → nat_eq (way w a c) (way w f t) ≡ false
  apart a c l h = go (nat_eq (way w a c) (way w f t)) refl
    where
      go : (b : Bool) → nat_eq (way w a c) (way w f t) ≡ b → nat_eq (way w a c) (way w f t) ≡ false
      go false e = e
      go true e =
          let same : a * w.count + c ≡ f * w.count + t = grind (arith, e, nat_tests) in
          let p = way_tells w.count a c f t l lt same in absurd (h p.0 p.1)

  -- the outboxes of other ways are as they were or longer; the way nat_eq-itself has what it had, but for what is lost
  pub stays-way : (Lost : ℕ → ℕ → Message → Type 0) → ((c j : ℕ) (m : Message) → (n ≡ f → c ≡ t → ⊥) →
      slice_get (outbox (node_at w n) c) j ≡ Some m → slice_get (outbox x c) j ≡ Some m) →
      ((j : ℕ) (m : Message) → IsUnderWay w f t j m →
      ((i : ℕ) × (slice_get (messages_in y ++ outbox (cond (nat_eq f n) x (node_at w f)) t) i ≡ Some m)) ⊎ Lost f t m) → Stays Lost w v
  stays-way Lost keeps own a c j m u = go (nat_eq a f) (nat_eq c t) refl refl
    where
      at : (i : ℕ) → slice_get (messages_in (mail_at v (way v a c)) ++ outbox (node_at v a) c) i ≡ Some m → IsUnderWay v a c i m
      at i h = record {
        sender = subst (λ z. a < z) (sym count) u.sender;
        receiver = subst (λ z. c < z) (sym count) u.receiver;
        place = subst (λ ms. slice_get ms i ≡ Some m) (sym (flow_is v a c)) h;
      }

      other : ((a ≡ f) → (c ≡ t) → ⊥) → slice_get (messages_in (mail_at v (way v a c)) ++ outbox (node_at v a) c) j ≡ Some m
      other h = subst (λ z. slice_get (messages_in z ++ outbox (node_at v a) c) j ≡ Some m)
          (sym (mail_way a c ∙ ap (λ b. cond b y (mail_at w (way w a c))) (apart a c u.receiver h)))
          (in-both (messages_in (mail_at w (way w a c))) (outbox (node_at w a) c) (outbox (node_at v a) c) (more (nat_eq a n) refl) j m
          (subst (λ ms. slice_get ms j ≡ Some m) (flow_is w a c) u.place))
        where
          more : (b : Bool) → nat_eq a n ≡ b → (j : ℕ) (z : Message) → slice_get (outbox (node_at w a) c) j ≡ Some z →
              slice_get (outbox (node_at v a) c) j ≡ Some z
          more true e j z q =
              let same : a ≡ n = grind (arith, e, nat_tests) in
              ap (λ d. slice_get (outbox d c) j) (nodes a ∙ ap (λ b. cond b x (node_at w a)) e)
              ∙ keeps c j z (λ p r. h (same ∙ p) r) (ap (λ d. slice_get (outbox (node_at w d) c) j) (sym same) ∙ q)
          more false e j z q = ap (λ d. slice_get (outbox d c) j) (nodes a ∙ ap (λ b. cond b x (node_at w a)) e) ∙ q

      go : (b d : Bool) → nat_eq a f ≡ b → nat_eq c t ≡ d → ((i : ℕ) × IsUnderWay v a c i m) ⊎ Lost a c m
      go false d e q = inl (j, at j (other (λ p r. grind (arith, nat_tests, e, p))))
      go true false e q = inl (j, at j (other (λ p r. grind (arith, nat_tests, q, r))))
      go true true e q = elim (own j m (subst (λ z. IsUnderWay w f z j m) ct (subst (λ z. IsUnderWay w z c j m) af u))) [
        | inl z ↦ inl (
          z.0,
          at z.0 (subst (λ d. slice_get (messages_in d ++ outbox (node_at v a) c) z.0 ≡ Some m)
              (sym (mail_way a c ∙ ap (λ b. cond b y (mail_at w (way w a c))) here))
              (subst (λ d. slice_get (messages_in y ++ outbox d c) z.0 ≡ Some m) (sym (nodes a))
              (subst (λ d. slice_get (messages_in y ++ outbox (cond (nat_eq d n) x (node_at w d)) c) z.0 ≡ Some m) (sym af)
              (subst (λ d. slice_get (messages_in y ++ outbox (cond (nat_eq f n) x (node_at w f)) d) z.0 ≡ Some m) (sym ct) z.1)))),
        )
        | inr z ↦ inr (subst (λ d. Lost d c m) (sym af) (subst (λ d. Lost f d m) (sym ct) z))
      ]
        where
          af : a ≡ f
          af = grind (arith, e, nat_tests)

          ct : c ≡ t
          ct = grind (arith, q, nat_tests)

          here : nat_eq (way w a c) (way w f t) ≡ true
          here = subst (λ z. nat_eq (way w z c) (way w f t) ≡ true) (sym af)
              (subst (λ z. nat_eq (way w f z) (way w f t) ≡ true) (sym ct) (nat_eq-itself (way w f t)))

clear-box : messages_in mails.Empty ≡ []
unfolding messages_in
clear-box = refl

full-hand : (m : Message) → messages_in (mails.Hand m) ≡ messages_in (mails.Full m)
unfolding messages_in
full-hand m = refl

full-box : (m : Message) → messages_in (mails.Full m) ≡ m ∷ []
unfolding messages_in
full-box m = refl

hand-box : (m : Message) → messages_in (mails.Hand m) ≡ m ∷ []
unfolding messages_in
hand-box m = refl

-- a message is taken into the hand
pub stays-look : (w : World) (n from : ℕ) (m : Message) → n < w.count → mail_at w (way w from n) ≡ mails.Full m →
    Stays Never w (set_mail (set_node w n (record (node_at w n) { hand = Some from })) (way w from n) (mails.Hand m))
stays-look w n from m ln full = stays-way w n (record (node_at w n) { hand = Some from }) from n (mails.Hand m) ln Never
    (λ c j z h q. q)
    (λ j z u. inl (j, subst (λ ms. slice_get ms j ≡ Some z) (boxes (nat_eq from n) refl) u.place))
  where
    boxes : (b : Bool) → nat_eq from n ≡ b → flow w from n ≡
        messages_in (mails.Hand m) ++ outbox (cond b (record (node_at w n) { hand = Some from }) (node_at w from)) n
    boxes true e =
        let same : from ≡ n = grind (arith, e, nat_tests) in
        flow_is w from n ∙ ap (λ z. messages_in z ++ outbox (node_at w from) n) full
        ∙ ap (λ z. z ++ outbox (node_at w from) n) (sym (full-hand m))
        ∙ ap (λ z. messages_in (mails.Hand m) ++ outbox (node_at w z) n) same
    boxes false e = flow_is w from n ∙ ap (λ z. messages_in z ++ outbox (node_at w from) n) full
        ∙ ap (λ z. z ++ outbox (node_at w from) n) (sym (full-hand m))

-- a message is posted
pub stays-post : (w : World) (n to : ℕ) (m : Message) (rest : List Message) → to < w.count → outbox (node_at w n) to ≡ m ∷ rest →
    mail_at w (way w n to) ≡ mails.Empty →
    Stays Never w (set_mail (set_node w n (with_outbox (node_at w n) to rest)) (way w n to) (mails.Full m))
stays-post w n to m rest lt waits clear = stays-way w n x n to (mails.Full m) lt Never
    (λ c j z h q. ap (λ b. slice_get b j) (place_at-put_place [] (node_at w n).outboxes to rest c
    ∙ ap (λ b. cond b rest (outbox (node_at w n) c)) (off c h)) ∙ q)
    (λ j z u. inl (j, subst (λ ms. slice_get ms j ≡ Some z) (boxes (nat_eq n n) (nat_eq-itself n)) u.place))
  where
    x : Node
    x = with_outbox (node_at w n) to rest

    off : (c : ℕ) → (n ≡ n → c ≡ to → ⊥) → nat_eq c to ≡ false
    off c h = go (nat_eq c to) refl
      where
        go : (b : Bool) → nat_eq c to ≡ b → nat_eq c to ≡ false
        go false e = e
        go true e = absurd (h refl (grind (arith, e, nat_tests)))

    boxes : (b : Bool) → b ≡ true → flow w n to ≡ messages_in (mails.Full m) ++ outbox (cond b x (node_at w n)) to
    boxes true e = flow_is w n to ∙ ap (λ z. messages_in z ++ outbox (node_at w n) to) clear
        ∙ ap (λ z. z ++ outbox (node_at w n) to) clear-box ∙ waits
        ∙ sym (ap (λ z. z ++ outbox x to) (full-box m) ∙ ap (λ z. m ∷ z) (place_at-put_place [] (node_at w n).outboxes to rest to
        ∙ ap (λ b. cond b rest (outbox (node_at w n) to)) (nat_eq-itself to)))
    boxes false e = absurd (false_is e)
      where
        false_is : false ≡ true → ⊥
        false_is h = cc

-- the message in hand
abbrev pub Handed : ℕ → ℕ → Message → ℕ → ℕ → Message → Type 0
Handed from n x a c m = (a ≡ from) × (c ≡ n) × (m ≡ x)

-- a message is handed over
pub stays-hand : (w : World) (n from : ℕ) (m : Message) (x : Node) → n < w.count → mail_at w (way w from n) ≡ mails.Hand m →
    Keeps (node_at w n) x → Stays (Handed from n m) w (set_mail (set_node w n x) (way w from n) mails.Empty)
stays-hand w n from m x ln hand keeps = stays-way w n x from n mails.Empty ln (Handed from n m) (λ c j z h q. keeps c j z q)
    (λ j z u. own j z (subst (λ ms. slice_get ms j ≡ Some z) (flow_is w from n ∙ ap (λ y. messages_in y ++ outbox (node_at w from) n) hand
    ∙ ap (λ y. y ++ outbox (node_at w from) n) (hand-box m)) u.place))
  where
    own : (j : ℕ) (z : Message) → slice_get (m ∷ outbox (node_at w from) n) j ≡ Some z →
        ((i : ℕ) × (slice_get (messages_in mails.Empty ++ outbox (cond (nat_eq from n) x (node_at w from)) n) i ≡ Some z))
        ⊎ Handed from n m from n z
    own zero z h = inr (refl, refl, sym (same_Some m z h))
    own (suc j) z h = inl (
      j,
      subst (λ y. slice_get (y ++ outbox (cond (nat_eq from n) x (node_at w from)) n) j ≡ Some z) (sym clear-box)
          (go (nat_eq from n) refl),
    )
      where
        go : (b : Bool) → nat_eq from n ≡ b → slice_get (outbox (cond b x (node_at w from)) n) j ≡ Some z
        go true e =
            let same : from ≡ n = grind (arith, e, nat_tests) in
            keeps n j z (ap (λ y. slice_get (outbox (node_at w y) n) j) (sym same) ∙ h)
        go false e = h
