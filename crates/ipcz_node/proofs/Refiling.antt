-- What filing a router anew does to one key, step by step.
use Rattle.std.proofs.Common.{◌≡◌, ◌==◌, ◌&&◌, ◌||◌, not, ℕ, ◌+◌, ◌≤◌, Bool, true, false, if◌then◌else◌, Option, Some, None, refl, sym, ◌∙◌}
use Rattle.std.proofs.Common.{ap, arith, true≢false}
use Rattle.std.specs.Ordering.{is_eq}
use Rattle.std.proofs.lemmas.Bool.Decides.{nat_tests}
use Rattle.std.specs.Prelude.{nat_eq}
use Rattle.ipcz_base.specs.declared.side.Side.{Side}
use Rattle.ipcz_base.specs.declared.side.Side.TheVariants.{A, B}
use Rattle.ipcz_base.specs.declared.link_id.LinkId.{LinkId}
use Rattle.ipcz_base.specs.declared.link_id.LinkId.TheVariants.{Central, Peripheral}
use Rattle.ipcz_base.specs.declared.link_end.LinkEnd.{LinkEnd}
use Rattle.ipcz_base.specs.Links.{same_link, is_at, has_link}
use Rattle.ipcz_base.specs.Sides.{same_side}
use Rattle.ipcz_router.specs.declared.filing.Filing.{Filing}
use Rattle.ipcz_router.specs.Filings.{is_under, gained_by, link_gain}
use Rattle.std.proofs.Common.{◌⊎◌, inl, inr, Result, Ok, Err, subst}
use Rattle.std.specs.Prelude.{OnOk, OnErr, IfErr}
use Rattle.std.specs.Ordering.{nat_cmp}
use Rattle.std.specs.FinMap.{FinMap, get, insert}
use Rattle.ipcz_base.specs.declared.end.End.{End}
use Rattle.ipcz_base.specs.declared.item.Item.{Item}
use Rattle.ipcz_router.specs.Router.{Router, inward_edge, is_open_terminal}
use Rattle.ipcz_router.specs.Calls.{put_item, take_item, accept, extend}
use Rattle.ipcz_router.specs.Filings.{filing_of}
use Rattle.std.specs.Prelude.{option_map}
use Rattle.ipcz_base.specs.Links.{central_end}
use Rattle.ipcz_edge.specs.Edge.{Edge, finish}
use Rattle.ipcz_router.specs.Bypass.{bypass_peer}
use Rattle.ipcz_router.specs.ActEffects.{apply, finish_in, begin_bypass, rewet}
use Rattle.ipcz_router.specs.declared.act.RouterAct.{RouterAct}
use Rattle.ipcz_router.specs.declared.act.RouterAct.TheVariants.{FinishOut, FinishIn, Leave, Mark, Claim}
use Rattle.ipcz_router.specs.declared.act.RouterAct.TheVariants.{Lock, Begin}
use Rattle.ipcz_router.specs.declared.act.Answer.{Answer}
use Rattle.ipcz_router.specs.declared.act.Answer.TheVariants.{Plain}
use Rattle.ipcz_node.specs.SortedSets.{RoomySet, has}
use Rattle.ipcz_node.specs.Indexes.{is_filed}
use Rattle.ipcz_base.specs.Orders.{end_cmp}
use Rattle.ipcz_base.specs.Ends.{same_end}
use Rattle.std.proofs.Common.{◌<◌}
use Rattle.ipcz_node.specs.Directories.{AreFiled, HaveRoom, CanRefile, AreRefiled, keeps_links}
use Rattle.ipcz_node.proofs.Directories.{can_refile, refiled}
use Rattle.ipcz_node.specs.declared.link_place.LinkPlace.{LinkPlace}
use Rattle.ipcz_node.specs.LinkPlaces.{place_cmp, link_place}
use Rattle.ipcz_node.proofs.LinkPlaces.{places_tie}

-- one link fewer, and one more, at one key: has it the kept ones, is the serial the one, has the link
abbrev pub less_one : Bool → Bool → Bool → Bool → Bool
less_one kept same has old = not (not kept && (same && has)) && old

abbrev pub more_one : Bool → Bool → Bool → Bool → Bool
more_one was same has old = (not was && (same && has)) || old

gone : (b1 b2 b3 b4 : Bool) →
    less_one false true b4 (less_one false true b3 (less_one false true b2 (less_one false true b1 ((b1 || b2) || (b3 || b4))))) ≡ false
gone b1 b2 b3 true = refl
gone b1 b2 true false = refl
gone b1 true false false = refl
gone true false false false = refl
gone false false false false = refl

there : (a1 a2 a3 a4 : Bool) → more_one false true a4 (more_one false true a3 (more_one false true a2 (more_one false true a1 false))) ≡
    ((a1 || a2) || (a3 || a4))
there true true true true = refl
there true true true false = refl
there true true false true = refl
there true true false false = refl
there true false true true = refl
there true false true false = refl
there true false false true = refl
there true false false false = refl
there false true true true = refl
there false true true false = refl
there false true false true = refl
there false true false false = refl
there false false true true = refl
there false false true false = refl
there false false false true = refl
there false false false false = refl

abbrev any : Bool → Bool → Bool → Bool → Bool
any a b c d = (a || b) || (c || d)

-- the four links of one filing leave if the other has them not, and the four of that come
pub relinked : (is was same b1 b2 b3 b4 a1 a2 a3 a4 old : Bool) → any a1 a2 a3 a4 ≡ is → any b1 b2 b3 b4 ≡ was → (same ≡ true → old ≡ was)
    → more_one was same a4
    (more_one was same a3
    (more_one was same a2
    (more_one was same a1 (less_one is same b4 (less_one is same b3 (less_one is same b2 (less_one is same b1 old)))))))
    ≡ (if same then is else old)
relinked true true false b1 b2 b3 b4 a1 a2 a3 a4 old is_is was_is here = refl
relinked true false false b1 b2 b3 b4 a1 a2 a3 a4 old is_is was_is here = refl
relinked false true false b1 b2 b3 b4 a1 a2 a3 a4 old is_is was_is here = refl
relinked false false false b1 b2 b3 b4 a1 a2 a3 a4 old is_is was_is here = refl
relinked true true true b1 b2 b3 b4 a1 a2 a3 a4 old is_is was_is here = here refl
relinked true false true b1 b2 b3 b4 a1 a2 a3 a4 old is_is was_is here =
    ap (λ x. more_one false true a4 (more_one false true a3 (more_one false true a2 (more_one false true a1 x)))) (here refl) ∙
    there a1 a2 a3 a4 ∙ is_is
relinked false true true b1 b2 b3 b4 a1 a2 a3 a4 old is_is was_is here =
    ap (λ x. less_one false true b4 (less_one false true b3 (less_one false true b2 (less_one false true b1 x)))) (here refl ∙ sym was_is) ∙
    gone b1 b2 b3 b4
relinked false false true b1 b2 b3 b4 a1 a2 a3 a4 old is_is was_is here =
    ap (λ y. more_one false true a4 (more_one false true a3 (more_one false true a2 (more_one false true a1 y))))
    (ap (λ x. less_one false true b4 (less_one false true b3 (less_one false true b2 (less_one false true b1 x))))
    (here refl ∙ sym was_is) ∙ gone b1 b2 b3 b4)
    ∙ there a1 a2 a3 a4 ∙ is_is

-- a link is the one that it is said to be
pub number_is : (a b : ℕ) → nat_eq a b ≡ true → a ≡ b
number_is a b h = grind (arith, nat_tests)

pub first_of_both : (a b : Bool) → (a && b) ≡ true → a ≡ true
first_of_both true b h = refl
first_of_both false b h = h

pub second_of_both : (a b : Bool) → (a && b) ≡ true → b ≡ true
second_of_both true b h = h
second_of_both false b h = absurd (true≢false (sym h))

link_is : (a b : LinkId) → same_link a b ≡ true → a ≡ b
link_is (Central i) (Central j) h = ap (λ n. Central n) (number_is i j h)
link_is (Central i) (Peripheral n s) h = absurd (true≢false (sym h))
link_is (Peripheral n s) (Central j) h = absurd (true≢false (sym h))
link_is (Peripheral n s) (Peripheral m t) h = ap (λ x. Peripheral x s) (number_is n m (first_of_both _ _ h)) ∙
    ap (λ y. Peripheral m y) (number_is s t (second_of_both _ _ h))

pub side_is : (a b : Side) → same_side a b ≡ true → a ≡ b
side_is A A h = refl
side_is A B h = absurd (true≢false (sym h))
side_is B A h = absurd (true≢false (sym h))
side_is B B h = refl

under_is : (f : Filing) (e : LinkEnd) (link : LinkId) (side : Side) → is_at link side e ≡ true →
    is_under f link side ≡ is_under f e.link e.side
under_is f e link side h =
    sym (ap (λ l. is_under f l e.side) (link_is e.link link (first_of_both _ _ h)) ∙
    ap (is_under f link) (side_is e.side side (second_of_both _ _ h)))

-- a link that is taken away, since it isn't kept
pub dropped : (f : Filing) (e : LinkEnd) (link : LinkId) (side : Side) (same : Bool) → is_under f e.link e.side ≡ false
    → (is_eq (place_cmp (link_place e.link e.side) (link_place link side)) && same) ≡ (not (is_under f link side) && (same && is_at link side e))
dropped f e link side same none = ap (λ b. b && same) (places_tie e.link e.side link side) ∙ go (is_at link side e) refl same
  where
    go : (b : Bool) → is_at link side e ≡ b → (same : Bool) → (b && same) ≡ (not (is_under f link side) && (same && b))
    go true at true = sym (ap (λ u. not u && true) (under_is f e link side at ∙ none))
    go true at false = sym (no (not (is_under f link side)))
      where
        no : (b : Bool) → (b && false) ≡ false
        no true = refl
        no false = refl
    go false at true = sym (no (not (is_under f link side)))
      where
        no : (b : Bool) → (b && false) ≡ false
        no true = refl
        no false = refl
    go false at false = sym (no (not (is_under f link side)))
      where
        no : (b : Bool) → (b && false) ≡ false
        no true = refl
        no false = refl

-- a link that is kept is not to be taken away
pub kept : (f : Filing) (e : LinkEnd) (link : LinkId) (side : Side) (same : Bool) → is_under f e.link e.side ≡ true →
    (not (is_under f link side) && (same && is_at link side e)) ≡ false
kept f e link side same some = go (is_at link side e) refl same
  where
    no : (b : Bool) → (b && false) ≡ false
    no true = refl
    no false = refl

    go : (b : Bool) → is_at link side e ≡ b → (same : Bool) → (not (is_under f link side) && (same && b)) ≡ false
    go true at same = ap (λ u. not u && (same && true)) (under_is f e link side at ∙ some)
    go false at true = no (not (is_under f link side))
    go false at false = no (not (is_under f link side))

nothing : (b same : Bool) → (b && (same && false)) ≡ false
nothing true true = refl
nothing true false = refl
nothing false true = refl
nothing false false = refl

module _ (f : Filing) (o : Option LinkEnd) (link : LinkId) (side : Side) (same old : Bool) where
  module _ (e : LinkEnd) (is : o ≡ Some e) where
    pub file_one : (p : LinkPlace) (new : Bool) → p ≡ link_place e.link e.side → is_under f e.link e.side ≡ false →
        new ≡ ((is_eq (place_cmp p (link_place link side)) && same) || old) →
        new ≡ more_one (is_under f link side) same (has_link o link side) old
    unfolding has_link
    file_one p new at none made =
        made ∙ ap (λ q. (is_eq (place_cmp q (link_place link side)) && same) || old) at ∙
        ap (λ b. b || old) (dropped f e link side same none ∙
        ap (λ p. not (is_under f link side) && (same && has_link p link side)) (sym is))

    pub file_kept : is_under f e.link e.side ≡ true → old ≡ more_one (is_under f link side) same (has_link o link side) old
    unfolding has_link
    file_kept some = sym (ap (λ p. (not (is_under f link side) && (same && has_link p link side)) || old) is ∙
        ap (λ b. b || old) (kept f e link side same some))

    pub drop_one : (p : LinkPlace) (new : Bool) → p ≡ link_place e.link e.side → is_under f e.link e.side ≡ false →
        new ≡ (not (is_eq (place_cmp p (link_place link side)) && same) && old) →
        new ≡ less_one (is_under f link side) same (has_link o link side) old
    unfolding has_link
    drop_one p new at none made =
        made ∙ ap (λ q. not (is_eq (place_cmp q (link_place link side)) && same) && old) at ∙
        ap (λ b. not b && old) (dropped f e link side same none ∙
        ap (λ p. not (is_under f link side) && (same && has_link p link side)) (sym is))

    pub drop_kept : is_under f e.link e.side ≡ true → old ≡ less_one (is_under f link side) same (has_link o link side) old
    unfolding has_link
    drop_kept some = sym (ap (λ p. not (not (is_under f link side) && (same && has_link p link side)) && old) is ∙
        ap (λ b. not b && old) (kept f e link side same some))

  pub file_none : o ≡ None → old ≡ more_one (is_under f link side) same (has_link o link side) old
  unfolding has_link
  file_none is = sym (ap (λ p. (not (is_under f link side) && (same && has_link p link side)) || old) is ∙
      ap (λ b. b || old) (nothing (not (is_under f link side)) same))

  pub drop_none : o ≡ None → old ≡ less_one (is_under f link side) same (has_link o link side) old
  unfolding has_link
  drop_none is = sym (ap (λ p. not (not (is_under f link side) && (same && has_link p link side)) && old) is ∙
      ap (λ b. not b && old) (nothing (not (is_under f link side)) same))

-- what is filed under the serial is what is filed under an equal number
pub at_serial : (P : ℕ → Bool) (b : Bool) (serial s : ℕ) → P serial ≡ b → (serial == s) ≡ true → P s ≡ b
at_serial P b serial s is same = ap P (sym (number_is serial s same)) ∙ is

-- a router that is filed under at most so many links more than it was, and is no terminal that it wasn't
pub record FilesWithin (more : ℕ) (r w : Router) : Type 0 where
  pub few : link_gain (filing_of r) (filing_of w) ≤ more
  pub closes : is_open_terminal r ≡ false → is_open_terminal w ≡ false
  pub stays : w.end ≡ r.end

itself : (link : LinkId) → same_link link link ≡ true
itself (Central i) = same i
  where
    same : (n : ℕ) → nat_eq n n ≡ true
    same n = grind (arith, nat_tests)
itself (Peripheral n s) = ap (λ b. b && nat_eq s s) (same n) ∙ same s
  where
    same : (n : ℕ) → nat_eq n n ≡ true
    same n = grind (arith, nat_tests)

its_side : (side : Side) → same_side side side ≡ true
its_side A = refl
its_side B = refl

at_itself : (e : LinkEnd) → is_at e.link e.side e ≡ true
at_itself e = ap (λ b. b && same_side e.side e.side) (itself e.link) ∙ its_side e.side

has_itself : (o : Option LinkEnd) (e : LinkEnd) → o ≡ Some e → has_link o e.link e.side ≡ true
unfolding has_link
has_itself o e is = ap (λ p. has_link p e.link e.side) is ∙ at_itself e

-- the links of a filing are none more than it has
own : (f : Filing) (o : Option LinkEnd) → ((e : LinkEnd) → o ≡ Some e → is_under f e.link e.side ≡ true) → gained_by f o ≡ 0
own f None has = refl
own f (Some e) has = ap (λ b. if b then 0 else 1) (has e refl)

one_of : (a b c d : Bool) → ((a ≡ true) ⊎ (b ≡ true)) ⊎ ((c ≡ true) ⊎ (d ≡ true)) → ((a || b) || (c || d)) ≡ true
one_of true b c d h = refl
one_of false true c d h = refl
one_of false false true d h = refl
one_of false false false true h = refl
one_of false false false false (inl (inl h)) = h
one_of false false false false (inl (inr h)) = h
one_of false false false false (inr (inl h)) = h
one_of false false false false (inr (inr h)) = h

pub own_outward : (f : Filing) → gained_by f f.outward ≡ 0
own_outward f = own f f.outward (λ e is. one_of (has_link f.outward e.link e.side) (has_link f.outward_decaying e.link e.side)
    (has_link f.inward e.link e.side) (has_link f.inward_decaying e.link e.side) (inl (inl (has_itself f.outward e is))))

pub own_outward_decaying : (f : Filing) → gained_by f f.outward_decaying ≡ 0
own_outward_decaying f =
    own f f.outward_decaying (λ e is. one_of (has_link f.outward e.link e.side) (has_link f.outward_decaying e.link e.side)
    (has_link f.inward e.link e.side) (has_link f.inward_decaying e.link e.side) (inl (inr (has_itself f.outward_decaying e is))))

pub own_inward : (f : Filing) → gained_by f f.inward ≡ 0
own_inward f = own f f.inward (λ e is. one_of (has_link f.outward e.link e.side) (has_link f.outward_decaying e.link e.side)
    (has_link f.inward e.link e.side) (has_link f.inward_decaying e.link e.side) (inr (inl (has_itself f.inward e is))))

pub own_inward_decaying : (f : Filing) → gained_by f f.inward_decaying ≡ 0
own_inward_decaying f =
    own f f.inward_decaying (λ e is. one_of (has_link f.outward e.link e.side) (has_link f.outward_decaying e.link e.side)
    (has_link f.inward e.link e.side) (has_link f.inward_decaying e.link e.side) (inr (inr (has_itself f.inward_decaying e is))))

pub at_most_one : (f : Filing) (o : Option LinkEnd) → gained_by f o ≤ 1
at_most_one f None = omega arith
at_most_one f (Some e) = go (is_under f e.link e.side)
  where
    go : (b : Bool) → (if b then 0 else 1) ≤ 1
    go true = omega arith
    go false = omega arith

pub same_links : (f : Filing) → link_gain f f ≡ 0
same_links f = omega (arith, own_outward f, own_outward_decaying f, own_inward f, own_inward_decaying f)

-- a router whose edges, end, inward edge and closing stay
pub same_standing : (r : Router) → FilesWithin 0 r r
same_standing r = record { few = omega (arith, same_links (filing_of r)); closes = λ h. h; stays = refl }

pub accept_standing : (r : Router) (from_outward : Bool) (n : ℕ) (item : Item) → FilesWithin 0 r (accept r from_outward n item)
unfolding accept
accept_standing r true n item = record { few = omega (arith, same_links (filing_of r)); closes = λ h. h; stays = refl }
accept_standing r false n item = record { few = omega (arith, same_links (filing_of r)); closes = λ h. h; stays = refl }

pub extend_standing : (r : Router) (link : LinkEnd) → FilesWithin 1 r (extend r link)
extend_standing r link = record {
  few = omega (arith, own_outward (filing_of r), own_outward_decaying (filing_of r), at_most_one (filing_of r) (Some link));
  closes = λ h. refl;
  stays = refl;
}

-- one link leaves if it isn't kept, and each other stays
pub unlinked : (is went same old : Bool) → (same ≡ true → old ≡ (is || went)) → less_one is same went old ≡ (if same then is else old)
unlinked true went true old here = here refl
unlinked true went false old here = refl
unlinked false true true old here = refl
unlinked false false true old here = here refl
unlinked false went false old here = refl

one_less : (a b c d : Bool) → any a b c d ≡ (any a false c d || b)
one_less true b c d = refl
one_less false true true d = refl
one_less false true false true = refl
one_less false true false false = refl
one_less false false true d = refl
one_less false false false true = refl
one_less false false false false = refl

-- the act that finishes the outward edge gives its decaying link up, and no other
pub finished : (r w : Router) (answer : Answer) (was is : Filing) → was ≡ filing_of r → is ≡ filing_of w → w ≡ apply r FinishOut answer →
    (link : LinkId) (side : Side) → is_under was link side ≡ (is_under is link side || has_link was.outward_decaying link side)
unfolding apply has_link
finished r w answer was is was_is is_is done link side = rw (was_is, is_is, done)
    (one_less (has_link r.outward.primary link side) (has_link r.outward.decaying link side) (has_link (inward_edge r).primary link side)
    (has_link (inward_edge r).decaying link side))

-- an act gives links up, or lets one decay, but takes none
pub act_standing : (r : Router) (act : RouterAct) (answer : Answer) → FilesWithin 0 r (apply r act answer)
unfolding apply
act_standing r FinishOut a =
    record {
      few = omega (arith, own_outward (filing_of r), own_inward (filing_of r), own_inward_decaying (filing_of r));
      closes = λ h. h;
      stays = refl;
    }
act_standing r FinishIn a = finishing r.inward refl
  where
    finishing : (i : Option Edge) → r.inward ≡ i → FilesWithin 0 r (finish_in r)
    finishing None is = subst (FilesWithin 0 r)
        (sym (ap (λ i. record r { inward = option_map finish i }) is ∙ sym (ap (λ i. record r { inward = i }) is))) (same_standing r)
    finishing (Some e) is = subst (λ i. FilesWithin 0 (record r { inward = i }) (record r { inward = option_map finish i })) (sym is)
        (record {
          few = omega (
            arith,
            own_outward (filing_of (record r { inward = Some e })),
            own_outward_decaying (filing_of (record r { inward = Some e })),
            own_inward (filing_of (record r { inward = Some e })),
          );
          closes = λ h. refl;
          stays = refl;
        })
act_standing r Mark Plain = same_standing r
act_standing r Claim Plain = same_standing r
act_standing r Lock Plain = same_standing r
act_standing r Begin a = beginning r.inward refl
  where
    beginning : (i : Option Edge) → r.inward ≡ i → FilesWithin 0 r (begin_bypass r)
    beginning None is = subst (λ i. FilesWithin 0 (record r { inward = i }) (begin_bypass (record r { inward = i }))) (sym is)
        (record { few = omega (arith, own_outward (filing_of (record r { inward = None }))); closes = λ h. h; stays = refl })
    beginning (Some e) is = subst (λ i. FilesWithin 0 (record r { inward = i }) (begin_bypass (record r { inward = i }))) (sym is) (record {
      few = omega (arith, own_outward (filing_of (record r { inward = Some e })), own_inward (filing_of (record r { inward = Some e })));
      closes = λ h. refl;
      stays = refl;
    })
act_standing r other a = record { few = omega (arith, same_links (filing_of r)); closes = λ h. h; stays = refl }

-- a router that leaves a link for a fresh one has one link more
pub bypass_standing : (r : Router) (target fresh : ℕ) → FilesWithin 1 r (bypass_peer r target fresh)
bypass_standing r target fresh = record {
  few = omega (
    arith,
    at_most_one (filing_of r) (Some (central_end fresh r.end.side target)),
    own_outward (filing_of r),
    own_inward (filing_of r),
    own_inward_decaying (filing_of r),
  );
  closes = λ h. h;
  stays = refl;
}

-- what holds of the router that a call was to make, and of the one it found, holds of the one it left
pub after : {X E : Type 0} (P : Router → Type 0) (answer : Result X E) (r w y : Router) → OnOk answer (w ≡ y) → OnErr answer (w ≡ r) → P y →
    P r → P w
after P (Ok a) r w y done left changed same = subst P (sym done) changed
after P (Err e) r w y done left changed same = subst P (sym left) same

pub left_after : {X E : Type 0} (P : E → Type 0) (Q : Type 0) (answer : Result X E) → IfErr answer (λ e. P e × Q) → OnErr answer Q
left_after P Q (Ok a) h = tt
left_after P Q (Err e) h = h.1

module _ (m : FinMap nat_cmp Router) (s : ℕ) (r w : Router) (was is : Filing) (taken : ℕ) (fits : FilesWithin taken r w)
    (links to_links : RoomySet (LinkPlace × ℕ)) (terminals to_terminals : RoomySet (End × ℕ)) (flagged to_flagged : RoomySet ℕ)
    (room more less in_routers : ℕ) (here : get m s ≡ Some r) (was_is : was ≡ filing_of r) (is_is : is ≡ filing_of w)
    (enough : less + taken ≤ more)
    (held : AreFiled m links.members terminals.members flagged.members ×
    HaveRoom m room more in_routers links.room terminals.room flagged.room) where
  few_links : link_gain was is ≤ taken
  few_links = subst (λ f. link_gain f is ≤ taken) (sym was_is) (subst (λ f. link_gain (filing_of r) f ≤ taken) (sym is_is) fits.few)

  -- the router can be filed anew
  pub can_change : CanRefile links terminals flagged s was is
  can_change = can_refile m s r was is links terminals flagged room more in_routers here was_is (omega (arith, few_links, enough))
      (λ h. ap (λ f. f.is_open) is_is ∙ fits.closes (sym (ap (λ f. f.is_open) was_is) ∙ h))
      (ap (λ f. f.end) is_is ∙ fits.stays ∙ sym (ap (λ f. f.end) was_is)) held

  -- and then stands among the others
  pub changed : AreRefiled links to_links terminals to_terminals flagged to_flagged s was is
      → AreFiled (insert m s w) to_links.members to_terminals.members to_flagged.members ×
      HaveRoom (insert m s w) room less in_routers to_links.room to_terminals.room to_flagged.room
  changed by = refiled m s r w was is links to_links terminals to_terminals flagged to_flagged room more less in_routers here was_is is_is
      (omega (arith, few_links, enough)) held by

-- a router that stays where it was filed, but for its flag
abbrev pub StaysFiled : Router → Router → Type 0
StaysFiled r w = filing_of w ≡ record (filing_of r) { flagged = w.flagged }

pub same_stays : (r : Router) → StaysFiled r r
same_stays r = refl

pub put_stays : (r : Router) (item : Item) → StaysFiled r (put_item r item)
put_stays r item = refl

pub take_stays : (r : Router) → StaysFiled r (take_item r)
take_stays r = refl

pub accept_stays : (r : Router) (from_outward : Bool) (n : ℕ) (item : Item) → StaysFiled r (accept r from_outward n item)
unfolding accept
accept_stays r true n item = refl
accept_stays r false n item = refl

pub rewet_stays : (r : Router) → StaysFiled r (rewet r)
rewet_stays r = refl

-- as with each act that keeps its links
pub act_stays : (r : Router) (act : RouterAct) (answer : Answer) → keeps_links act ≡ true → StaysFiled r (apply r act answer)
unfolding apply keeps_links
act_stays r FinishOut a keeps = absurd (true≢false (sym keeps))
act_stays r FinishIn a keeps = absurd (true≢false (sym keeps))
act_stays r Leave a keeps = absurd (true≢false (sym keeps))
act_stays r Mark Plain keeps = refl
act_stays r Claim Plain keeps = refl
act_stays r Lock Plain keeps = refl
act_stays r Begin a keeps = absurd (true≢false (sym keeps))
act_stays r other a keeps = refl

-- what stays at a serial stays at each number
kept_at : (P : ℕ → Bool) (b : Bool) (s q : ℕ) → P s ≡ b → P q ≡ (if s == q then b else P q)
kept_at P b s q is = go (s == q) refl
  where
    go : (c : Bool) → (s == q) ≡ c → P q ≡ (if c then b else P q)
    go true e = at_serial P b s q is e
    go false e = refl

module _ (m : FinMap nat_cmp Router) (s : ℕ) (r w : Router) (stays : StaysFiled r w) (links : RoomySet (LinkPlace × ℕ))
    (terminals : RoomySet (End × ℕ)) (flagged to_flagged : RoomySet ℕ) (room more in_routers : ℕ) (here : get m s ≡ Some r)
    (held : AreFiled m links.members terminals.members flagged.members ×
    HaveRoom m room more in_routers links.room terminals.room flagged.room) where
  in_place : FilesWithin 0 r w
  in_place = record {
    few = subst (λ f. link_gain (filing_of r) f ≤ 0) (sym stays) (omega (arith, same_links (filing_of r)));
    closes = λ h. ap (λ f. f.is_open) stays ∙ h;
    stays = ap (λ f. f.end) stays;
  }

  can : CanRefile links terminals flagged s (filing_of r) (filing_of w)
  can = can_change m s r w (filing_of r) (filing_of w) 0 in_place links links terminals terminals flagged to_flagged room more more in_routers
      here refl refl (omega arith) held

  -- its flag is what the set of flagged ones says, and there is room to set it
  pub flag_was : has nat_cmp flagged.members s ≡ r.flagged
  flag_was = can.by_flag

  pub flag_room : r.flagged ≡ false → 0 < flagged.room
  flag_room = can.flag_room

  -- it stands among the others once its flag is followed
  pub flag_changed : (was is : Bool) → was ≡ r.flagged → is ≡ w.flagged
      → ((q : ℕ) → has nat_cmp to_flagged.members q ≡ (if s == q then is else has nat_cmp flagged.members q))
      → flagged.room + (if was then 1 else 0) ≤ to_flagged.room + (if is then 1 else 0)
      → AreFiled (insert m s w) links.members terminals.members to_flagged.members ×
      HaveRoom (insert m s w) room more in_routers links.room terminals.room to_flagged.room
  flag_changed was is was_is is_is members flag_rooms =
      changed m s r w (filing_of r) (filing_of w) 0 in_place links links terminals terminals flagged to_flagged room more more in_routers
      here refl refl (omega arith) held (record {
        by_link = λ link side q. kept_at (is_filed place_cmp links.members (link_place link side)) (is_under (filing_of w) link side) s q
            (can.by_link link side ∙ sym (ap (λ f. is_under f link side) stays));
        by_end = λ end q. kept_at (is_filed end_cmp terminals.members end) (is_open_terminal w && same_end w.end end) s q
            (can.by_end end ∙ sym (ap (λ f. f.is_open && same_end f.end end) stays));
        by_flag = λ q. members q ∙ ap (λ f. if s == q then f else has nat_cmp flagged.members q) is_is;
        link_room = omega arith;
        end_room = omega arith;
        flag_room = subst (λ f. flagged.room + (if r.flagged then 1 else 0) ≤ to_flagged.room + (if f then 1 else 0)) is_is
            (subst (λ f. flagged.room + (if f then 1 else 0) ≤ to_flagged.room + (if is then 1 else 0)) was_is flag_rooms);
      })

-- a router that is away is filed nowhere
abbrev pub nowhere : End → Filing
nowhere end = record {
  outward = None;
  outward_decaying = None;
  inward = None;
  inward_decaying = None;
  end = end;
  is_open = false;
  flagged = false;
}

pub under_nowhere : (end : End) (link : LinkId) (side : Side) → is_under (nowhere end) link side ≡ false
unfolding has_link
under_nowhere end link side = refl
