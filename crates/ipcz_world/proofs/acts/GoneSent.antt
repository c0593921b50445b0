-- The last item of an end that has retired is sent: what is said of all but terminals, retired ends and Gone is kept, with Gone in the books.
use Rattle.ipcz_world.proofs.frames.NearInv.{links-near}
use Rattle.std.specs.Prelude.{◌≡◌, ◌≢◌, ◌⊎◌, ◌≤◌, ◌+◌, ℕ, suc, Bool, true, false, cond, ◌||◌, Some, None, List, [], ◌∷◌, ◌++◌, length}
use Rattle.std.specs.Prelude.{take, drop, map, slice_get, refl}
use Rattle.std.proofs.Common.{arith, ap, subst, ◌∙◌, sym, inl, inr}
use Rattle.std.proofs.lemmas.Option.{none-some}
use Rattle.ipcz_world.proofs.Vocabulary.{Side, End, LinkId, LinkEnd, Descriptor, Item, Message, opposite_end, same_end, has_end, Router, is_terminal}
use Rattle.ipcz_world.proofs.Vocabulary.{World, Key, same_key, router_at, flow, Books, read, is_closed, Records, inner_link, is_nowhere, IsUnderWay}
use Rattle.ipcz_world.proofs.Vocabulary.{of_end, moves_of, Weight, at_end, names_end, total_list, Controls, of_bypass, EndPlaces, BooksKept, Conserved}
use Rattle.ipcz_world.proofs.Vocabulary.{HeldOnce, Items, FreshNumbers, Parcel, Mark, Gone, has_mark, is_retired, add_put, Moves, move_weight}
use Rattle.ipcz_world.proofs.Vocabulary.{from_number, Retired}
use Rattle.ipcz_base.specs.declared.message.Message.TheVariants as messages
use Rattle.ipcz_base.specs.Limits.{last_number}
use Rattle.ipcz_world.proofs.frames.OfRecords.{holds, in_places}
use Rattle.ipcz_world.specs.Books.{has_gone}
use Rattle.ipcz_world.specs.Places.{unread_weight}
use Rattle.ipcz_world.proofs.facts.Drained.{has_gone-more, gone_found}
use Rattle.ipcz_world.proofs.facts.LinkTests.{same_end-itself}
use Rattle.ipcz_world.proofs.facts.Tests.{not_both}
use Rattle.ipcz_world.proofs.frames.Fitting.{ItemFits, fits_of, items_by, fits-drained}
use Rattle.ipcz_world.proofs.frames.Flowing.{IsPushed, came_pushed, under_way-pushed, slice_get-last, weighed}
use Rattle.ipcz_world.proofs.frames.Draining.{IsDraining, drained_same, ordered-drained, order-drained, proxy_numbers-drained, own-drained}
use Rattle.ipcz_world.proofs.frames.Draining.{other-drained}
use Rattle.ipcz_world.proofs.frames.Frames.{same_key_tells}
use Rattle.ipcz_world.proofs.frames.NearInv.{NearInv}
use Rattle.ipcz_world.proofs.frames.Touching.{IsTouched, alike-itself, HasSameHands, HasSameEnds, hands-same, recorded_same, counts-touched}
use Rattle.ipcz_world.proofs.frames.Touching.{shape-touched, roles-touched, stands-touched, words-touched, spares-touched}
use Rattle.ipcz_world.proofs.frames.Touching.{bypasses-touched, stages-touched}
use Rattle.ipcz_world.proofs.acts.Sending.{about-item, moves-item, times_same}
use Rattle.ipcz_world.proofs.frames.Known.{not_there_yet}
use Rattle.ipcz_world.proofs.frames.Booking.{length-more, drop-more, take-more, length-drop, from_number-more, has_mark-more, end_tells}
use Rattle.ipcz_world.proofs.frames.Booking.{more_same, more_here, more_by, flag}
use Rattle.ipcz_world.proofs.frames.Sums.{total_list-at}

-- Gone of an end is pushed, while a router stands as before
pub record IsGoneSent (w v : World) (b : Books) (g : Records) (e : End) (jk : Key) (z : Router) (fr to : ℕ) (link : LinkId) (s : Side) : Type 0
  where
    pub touched : IsTouched w v jk z z
    pub pushed : IsPushed w v fr to (messages.Item link s (length (b.put e)) Gone [])
    pub hands : HasSameHands w v
    pub same : HasSameEnds w v
    pub places : (f : Weight) → in_places f g v ≡ in_places f g w + f e (length (b.put e)) Gone
    pub ended : g.terminal e ≡ Retired
    pub lone : (q : Key) (y : Router) → router_at w q ≡ Some y → is_terminal y ≡ true → y.end ≢ e
    pub closed : is_closed b e ≡ true
    pub unretired : is_retired b e ≡ false
    pub fits : ItemFits v g fr to (length (flow w fr to)) link s (length (b.put e))
    pub still : (q : Key) (y : Router) (d : LinkEnd) → router_at w q ≡ Some y → y.outward.primary ≡ Some d → d.link ≡ link → d.side ≡ s →
        y.outward.decaying ≡ None

expected_move-retired : (h : Descriptor → ℕ) → move_weight h Retired ≡ 0
unfolding move_weight
expected_move-retired h = refl

retired_somewhere : is_nowhere Retired ≡ false
unfolding is_nowhere
retired_somewhere = refl

module _ (w v : World) (b : Books) (g : Records) (e : End) (jk : Key) (z : Router) (fr to : ℕ) (link : LinkId) (s : Side) (law : NearInv w b g)
    (is : IsGoneSent w v b g e jk z fr to link s) where
  abbrev pub after : Books
  after = add_put b e Gone

  abbrev n : ℕ
  n = length (b.put e)

  d : IsDraining w v jk z z
  d = record { touched = is.touched; alike = alike-itself z; out = drained_same z.out_queue; inn = drained_same z.in_queue }

  pub controls-pushed : Controls w g → Controls v g
  controls-pushed law = record {
    control = λ o h. omega (
      arith,
      law.control o h,
      under_way-pushed (λ from to. of_bypass g o (h from to)) w v fr to
          (messages.Item link s n Gone []) is.pushed,
      about-item g o (h fr to) link s n Gone [],
    );
    will_stop = λ from to' i l t m u. elim (came_pushed w v fr to (messages.Item link s n Gone []) is.pushed from to' i
        (messages.ProxyWillStop l t m) u) [
          | inl c ↦ law.will_stop from to' c.at l t m c.was
          | inr c ↦ absurd (grind (arith, c.message))
        ];
    behind = λ from to' i l t old target fresh u e. elim (came_pushed w v fr to (messages.Item link s n Gone []) is.pushed from to' i
        (messages.BypassPeer l t old target fresh) u) [
          | inl c ↦ c.made l t (law.behind from to' c.at l t old target fresh c.was e)
          | inr c ↦ absurd (grind (arith, c.message))
        ];
    flush_central = λ from to' i l t u. law.flush_central from to' (flush from to' i l t u).0 l t (flush from to' i l t u).1;
    flush_recorded = λ from to' i l t u. recorded_same w v jk z z g is.touched l ∙ law.flush_recorded from to' (flush from to' i l t u).0 l t
        (flush from to' i l t u).1;
    flush_to = λ from to' i l t u. law.flush_to from to' (flush from to' i l t u).0 l t (flush from to' i l t u).1;
    flush_from = λ from to' i l t u. law.flush_from from to' (flush from to' i l t u).0 l t (flush from to' i l t u).1;
  }
    where
      flush : (from to' i : ℕ) (l : LinkId) (t : Side) → IsUnderWay v from to' i (messages.Flush l t) →
          (j : ℕ) × IsUnderWay w from to' j (messages.Flush l t)
      flush from to' i l t u = elim (came_pushed w v fr to (messages.Item link s n Gone []) is.pushed from to' i (messages.Flush l t) u) [
        | inl c ↦ (c.at, c.was)
        | inr c ↦ absurd (grind (arith, c.message))
      ]

  -- a descriptor under way was so before
  carried : (from to' i j : ℕ) (m : Message) (e : Descriptor) → IsUnderWay v from to' i m → slice_get (moves_of m) j ≡ Some e →
      (x : ℕ) × IsUnderWay w from to' x m
  carried from to' i j m e u h = elim (came_pushed w v fr to (messages.Item link s n Gone []) is.pushed from to' i m u) [
    | inl c ↦ (c.at, c.was)
    | inr c ↦ absurd (grind (arith, h, c.message, moves-item link s n Gone []))
  ]

  pub moves-pushed : Moves w g → Moves v g
  moves-pushed law = record {
    ends = λ from to' i l t m x moves u ne. elim (came_pushed w v fr to (messages.Item link s n Gone []) is.pushed from to' i
        (messages.Item l t m x moves) u) [
          | inl c ↦ law.ends from to' c.at l t m x moves c.was ne
          | inr c ↦ grind (arith, c.message)
        ];
    within = λ a i l t m x moves u. elim (came_pushed w v fr to (messages.Item link s n Gone []) is.pushed a a i (messages.Item l t m x moves)
        u) [
          | inl c ↦ law.within a c.at l t m x moves c.was
          | inr c ↦ grind (arith, c.message)
        ];
    recorded = λ from to' i j m e u h. let c = carried from to' i j m e u h in
        recorded_same w v jk z z g is.touched e.link ∙ law.recorded from to' c.0 j m e c.1 h;
    peripheral = λ from to' i j m e u h. let c = carried from to' i j m e u h in law.peripheral from to' c.0 j m e c.1 h;
    sender = λ from to' i j m e u h. let c = carried from to' i j m e u h in law.sender from to' c.0 j m e c.1 h;
    receiver = λ from to' i j m e u h. let c = carried from to' i j m e u h in law.receiver from to' c.0 j m e c.1 h;
    awaited = λ from to' i j m e u h. let c = carried from to' i j m e u h in law.awaited from to' c.0 j m e c.1 h;
    end = λ from to' i j m e u h. let c = carried from to' i j m e u h in law.end from to' c.0 j m e c.1 h;
    one = λ e h. omega (
      arith,
      law.one e h,
      under_way-pushed (λ from to m. total_list (of_end e h) (moves_of m)) w v fr to
          (messages.Item link s n Gone []) is.pushed,
      ap (total_list (of_end e h)) (moves-item link s n Gone []),
    );
    moving = λ q h a. law.moving q (sym (recorded_same w v jk z z g is.touched (inner_link q)) ∙ h) a;
  }

  -- who stands stood
  was : (q : Key) (x : Router) → router_at v q ≡ Some x → router_at w q ≡ Some x
  was q x at = go (same_key_tells q jk)
    where
      go : ((same_key q jk ≡ true) × (q ≡ jk)) ⊎ ((same_key q jk ≡ false) × (q ≢ jk)) → router_at w q ≡ Some x
      go (inl f) = grind (arith, is.touched.router q, f.0, f.1, is.touched.here, at)
      go (inr f) = grind (arith, is.touched.router q, f.0, at)

  ends-pushed : EndPlaces w g → EndPlaces v g
  ends-pushed law = record {
    held = λ a x h. law.held a x (subst (λ f. holds x f ≡ true) (is.same.held a) h);
    pending = λ a x h. law.pending a x (subst (λ f. has_end x f ≡ true) (is.same.pending a) h);
    each = λ q x at. law.each q x (was q x at);
    within = λ a i l t m y moves x u has. elim (came_pushed w v fr to (messages.Item link s n Gone []) is.pushed a a i
        (messages.Item l t m y moves) u) [
          | inl c ↦ law.within a c.at l t m y moves x c.was has
          | inr c ↦ absurd (grind (arith, c.message, has))
        ];
  }

  fresh-pushed : FreshNumbers w g → FreshNumbers v g
  fresh-pushed law q x at = record {
    own = own-drained w v jk z z g d law q x at;
    comes = λ p f len from to' i m y moves on off h u. elim (came_pushed w v fr to (messages.Item link s n Gone []) is.pushed from to' i
        (messages.Item p.link p.side m y moves) u) [
          | inl a ↦ (law q x (was q x at)).comes p f len from to' a.at m y moves on off h a.was
          | inr a ↦ absurd (none-some f (sym (is.still q x p (was q x at) on (grind (arith, a.message)) (grind (arith, a.message))) ∙ off))
        ];
    other = other-drained w v jk z z g d law q x at;
  }

  items-pushed : Items v g
  items-pushed = items_by v g (λ from to' i l t m x moves u. elim
      (came_pushed w v fr to (messages.Item link s n Gone []) is.pushed from to' i (messages.Item l t m x moves) u) [
        | inl c ↦ fits-drained w v jk z z g from to' i c.at l t m d (fits_of w g from to' c.at l t m x moves law.items c.was) (c.made l t)
            (λ q h. not_there_yet w b g from to' c.at l t m x moves q law.conserved law.counts (links-near law) c.was h)
        | inr c ↦ new from to' i l t m x moves c.sender c.receiver c.at c.message
      ])
    where
      new : (from to' i : ℕ) (l : LinkId) (t : Side) (m : ℕ) (x : Item) (moves : List Descriptor) → from ≡ fr → to' ≡ to →
          i ≡ length (flow w fr to) → messages.Item l t m x moves ≡ messages.Item link s n Gone [] → ItemFits v g from to' i l t m
      new from to' i l t m x moves a c f same =
          subst (λ f. ItemFits v g f to' i l t m) (sym a) (subst (λ f. ItemFits v g fr f i l t m) (sym c)
          (subst (λ f. ItemFits v g fr to f l t m) (sym f)
          (subst (λ f. ItemFits v g fr to (length (flow w fr to)) f t m) (grind (arith, same))
          (subst (λ f. ItemFits v g fr to (length (flow w fr to)) link f m) (grind (arith, same))
          (subst (λ f. ItemFits v g fr to (length (flow w fr to)) link s f) (grind (arith, same)) is.fits)))))

  -- the books
  pub put_same : (x : End) → x ≢ e → after.put x ≡ b.put x
  put_same x ne = more_same b.put (b.put e ++ Gone ∷ []) x e ne

  put_by : (x : End) (P : List Item → Type 0) → (x ≢ e → P (b.put x)) → (x ≡ e → P (b.put e ++ Gone ∷ [])) → P (after.put x)
  put_by x = more_by b.put (b.put e ++ Gone ∷ []) e x

  pub closed_same : (x : End) → is_closed after x ≡ is_closed b x
  closed_same x = put_by x (λ xs. has_mark xs ≡ is_closed b x) (λ ne. refl)
      (λ f. has_mark-more (b.put e) Gone ∙ or_none (has_mark (b.put e)) ∙ ap (is_closed b) (sym f))
    where
      or_none : (c : Bool) → (c || false) ≡ c
      or_none true = refl
      or_none false = refl

  pub retired_more : (x : End) → is_retired b x ≡ true → is_retired after x ≡ true
  retired_more x h = put_by x (λ xs. has_gone xs ≡ true) (λ ne. h) (λ f. absurd (not_both (is_retired b x) h (ap (is_retired b) f ∙ is.unretired)))

  pub retired_here : is_retired after e ≡ true
  retired_here = ap has_gone (more_here (b.put e ++ Gone ∷ []) (b.put e) e) ∙ has_gone-more (b.put e) Gone ∙ or_true (has_gone (b.put e))
    where
      or_true : (c : Bool) → (c || true) ≡ true
      or_true true = refl
      or_true false = refl

  pub retired_other : (x : End) → x ≢ e → is_retired after x ≡ is_retired b x
  retired_other x ne = ap has_gone (put_same x ne)

  pub longer : (x : End) (m : ℕ) → m ≤ length (b.put x) → m ≤ length (after.put x)
  longer x m l = put_by x (λ xs. m ≤ length xs) (λ ne. l)
      (λ f. omega (arith, l, length-more (b.put e) Gone, ap (λ y. length (b.put y)) f))

  books_kept-pushed : BooksKept v after g
  books_kept-pushed = record {
    own_pair = λ x y m item h has. put_by x (λ xs. slice_get xs m ≡ Some item → y.pair ≢ x.pair)
        (λ ne at. law.books_kept.own_pair x y m item at has)
        (λ f at. elim (slice_get-last (b.put e) Gone item m at) [
          | inl o ↦ law.books_kept.own_pair x y m item (ap (λ t. slice_get (b.put t) m) f ∙ o) has
          | inr o ↦ absurd (grind (arith, o.1, has))
        ]) h;
    mark_last = λ x m. put_by x (λ xs. slice_get xs m ≡ Some Mark → suc m + cond (has_gone xs) 1 0 ≡ length xs)
        (λ ne. law.books_kept.mark_last x m)
        (λ f h. elim (slice_get-last (b.put e) Gone Mark m h) [
          | inl o ↦ omega (
            arith,
            law.books_kept.mark_last e m o,
            length-more (b.put e) Gone,
            ap flag is.unretired,
            ap flag (has_gone-more (b.put e) Gone ∙ or_true (has_gone (b.put e))),
          )
          | inr o ↦ absurd (grind (arith, o.1))
        ]);
    gone_last = λ x m. put_by x (λ xs. slice_get xs m ≡ Some Gone → suc m ≡ length xs) (λ ne. law.books_kept.gone_last x m)
        (λ f h. elim (slice_get-last (b.put e) Gone Gone m h) [
          | inl o ↦ absurd (not_both (has_gone (b.put e)) (gone_found (b.put e) m o) is.unretired)
          | inr o ↦ omega (arith, o.0, length-more (b.put e) Gone)
        ]);
    retired_closed = λ x h. closed_same x ∙ elim (end_tells x e) [
      | inl f ↦ ap (is_closed b) f.1 ∙ is.closed
      | inr f ↦ law.books_kept.retired_closed x (sym (retired_other x f.1) ∙ h)
    ];
    numbers = λ x. put_by x (λ xs. length xs ≤ last_number + cond (has_mark xs) 1 0 + cond (has_gone xs) 1 0) (λ ne. law.books_kept.numbers x)
        (λ f. omega (
          arith,
          law.books_kept.numbers e,
          length-more (b.put e) Gone,
          ap flag is.unretired,
          ap flag is.closed,
          ap flag (has_gone-more (b.put e) Gone ∙ or_true (has_gone (b.put e))),
          ap flag (sym (ap has_mark (more_here (b.put e ++ Gone ∷ []) (b.put e) e)) ∙ closed_same e),
        ));
    mark_seen = λ q x at m. closed_same (opposite_end x.end) ∙ law.books_kept.mark_seen q x (was q x at) m;
  }
    where
      or_true : (c : Bool) → (c || true) ≡ true
      or_true true = refl
      or_true false = refl

  weight : (h : ℕ → Item → ℕ) → from_number h (read b (opposite_end e)) (drop (read b (opposite_end e)) (b.put e ++ Gone ∷ []))
      ≡ unread_weight h b e + h n Gone
  weight h =
      let l = law.conserved.read_put e in
      let place : read b (opposite_end e) + length (drop (read b (opposite_end e)) (b.put e)) ≡ n =
      length-drop (read b (opposite_end e)) (b.put e) l in
      ap (from_number h (read b (opposite_end e))) (drop-more (read b (opposite_end e)) (b.put e) Gone l)
      ∙ from_number-more h (read b (opposite_end e)) (drop (read b (opposite_end e)) (b.put e)) Gone
      ∙ ap (λ m. unread_weight h b e + h m Gone) place

  -- an end that has no terminal isn't on its way
  not_moving : (from to i j : ℕ) (m : Message) (c : Descriptor) → IsUnderWay w from to i m → slice_get (moves_of m) j ≡ Some c → c.end ≢ e
  not_moving from to i j m c u h f =
      let h1 : Descriptor → ℕ = λ d. 1 in
      let one : of_end e h1 c ≡ 1 = grind (arith, f, same_end-itself e) in
      let has : of_end e h1 c ≤ total_list (of_end e h1) (moves_of m) = total_list-at (of_end e h1) (moves_of m) j c h in
      let weight = weighed (λ from to m. total_list (of_end e h1) (moves_of m)) w from to i m u in
      let none : move_weight h1 (g.terminal e) ≡ 0 = ap (move_weight h1) is.ended ∙ expected_move-retired h1 in
      absurd (omega (arith, one, has, weight, law.moves.one e h1, none))

  conserved-pushed : Conserved v after g
  conserved-pushed = record {
    exact = λ x h. is.places (at_end x h) ∙ put_by x (λ xs. in_places (at_end x h) g w + at_end x h e n Gone ≡ from_number h
        (read b (opposite_end x)) (drop (read b (opposite_end x)) xs))
        (λ ne. let none : at_end x h e n Gone ≡ 0 = more_same (λ d. 0) (h n Gone) e x (λ f. ne (sym f)) in
        omega (arith, none, law.conserved.exact x h))
        (λ f. let one : at_end x h e n Gone ≡ h n Gone = ap (λ d. cond (same_end e d) (h n Gone) 0) f ∙ more_here (h n Gone) 0 e in
        omega (
          arith,
          one,
          law.conserved.exact x h,
          weight h,
          ap (unread_weight h b) f,
          ap (λ d. from_number h (read b (opposite_end d)) (drop (read b (opposite_end d)) (b.put e ++ Gone ∷ []))) f,
        ));
    read_put = λ x. longer x (read b (opposite_end x)) (law.conserved.read_put x);
    prefix = λ x. put_by x (λ xs. take (length (b.got (opposite_end x))) xs ≡ map Parcel (b.got (opposite_end x)))
        (λ ne. law.conserved.prefix x)
        (λ f. take-more (length (b.got (opposite_end x))) (b.put e) Gone
        (omega (arith, law.conserved.read_put x, ap (λ d. length (b.put d)) f)) ∙ ap
        (λ d. take (length (b.got (opposite_end x))) (b.put d)) (sym f) ∙ law.conserved.prefix x);
    gone_closed = λ x h. law.conserved.gone_closed x (sym (closed_same x) ∙ h);
    reach = λ q x at t. law.conserved.reach q x (was q x at) t ∙ ap length (sym (put_same x.end (is.lone q x (was q x at) t)));
    current = λ q x at t. law.conserved.current q x (was q x at) t;
    sink = λ q x at t. law.conserved.sink q x (was q x at) t ∙ sym (closed_same x.end);
    move_out = λ from to i j m c u h. let o = carried from to i j m c u h in law.conserved.move_out from to o.0 j m c o.1 h ∙
        ap length (sym (put_same c.end (not_moving from to o.0 j m c o.1 h)));
    move_in = λ from to i j m c u h. let o = carried from to i j m c u h in law.conserved.move_in from to o.0 j m c o.1 h;
    move_open = λ from to i j m c u h. let o = carried from to i j m c u h in closed_same c.end ∙ law.conserved.move_open from to o.0 j m c o.1 h;
    unopened_put = λ x h. put_by x (λ xs. xs ≡ []) (λ ne. law.conserved.unopened_put x h)
        (λ f. absurd (not_both (is_nowhere (g.terminal x)) h (ap (λ y. is_nowhere (g.terminal y)) f ∙ ap is_nowhere is.ended ∙ retired_somewhere)));
    unopened_got = law.conserved.unopened_got;
  }

  held_once-pushed : HeldOnce v after g
  held_once-pushed = record {
    once = λ x. omega (arith, is.places (names_end x), times_same w v is.same x, law.held_once.once x, ap flag (closed_same x));
    moves_in_parcel = λ from to' i l t m x moves j c u h. elim (came_pushed w v fr to (messages.Item link s n Gone []) is.pushed from to' i
        (messages.Item l t m x moves) u) [
          | inl o ↦ law.held_once.moves_in_parcel from to' o.at l t m x moves j c o.was h
          | inr o ↦ absurd (grind (arith, o.message, h))
        ];
  }

  pub near-pushed : NearInv v after g
  near-pushed = record {
    counts = counts-touched w v jk z z g is.touched (alike-itself z) law.counts (hands-same w v g law.counts is.touched.count is.hands);
    ordered = ordered-drained w v jk z z g d law.ordered;
    shape = shape-touched w v jk z z g is.touched (alike-itself z) law.shape;
    roles = roles-touched w v jk z z g is.touched (alike-itself z) law.roles;
    begun = law.begun;
    stands = stands-touched w v jk z z g is.touched (alike-itself z) law.stands;
    words = words-touched w v jk z z g is.touched (alike-itself z) law.words;
    spares = spares-touched w v jk z z g is.touched (alike-itself z) law.spares;
    bypasses = bypasses-touched w v jk z z g is.touched (alike-itself z) law.bypasses;
    live = law.live;
    stages = stages-touched w v jk z z g is.touched (alike-itself z) law.stages;
    controls = controls-pushed law.controls;
    moves = moves-pushed law.moves;
    end_places = ends-pushed law.end_places;
    books_kept = books_kept-pushed;
    items = items-pushed;
    order = order-drained w v jk z z g d law.order;
    proxy_numbers = proxy_numbers-drained w v jk z z g d law.proxy_numbers;
    fresh_numbers = fresh-pushed law.fresh_numbers;
    conserved = conserved-pushed;
    held_once = held_once-pushed;
    no_strays = λ i. is.touched.strays i ∙ law.no_strays i;
  }
