-- A JSON text has no more items in one array than it has bytes, and one.
use Rattle.std.proofs.Common.{◌≡◌, ◌∙◌, ℕ, suc, max, ◌+◌, ◌≤◌, ap, refl, subst, arith, List, [], ◌∷◌, length, length-append, Bool, true}
use Rattle.std.proofs.Common.{false, Option, Some, None, option_map, option_and_then, Ordering, Less, Equal, Greater}
use Rattle.std.specs.Prelude.{⊤, codes}
use Rattle.std.specs.Ordering.{nat_cmp, match_ordering}
use Rattle.std.specs.Cmp.Lexicographic.{slice_cmp}
use Rattle.json.specs.Token as tokened
use Rattle.json.specs.Token.{Token}
use Rattle.json.specs.Lex.{tokens, Lexeme, token, comma, colon, Class, class, Mode, between, in_word, in_string, in_escape, quote}
use Rattle.json.specs.Lex.{backslash, operator, space, other, lex_byte, lex, Place, fresh, after_value, after_comma, after_key}
use Rattle.json.specs.Lex.{begins_colon, may_begin, may_close, if_allowed, place_token, punctuate}
use Rattle.json.specs.Json as json
use Rattle.json.specs.Tree.{json_tokens, items_tokens, members_tokens}
use Rattle.json.proofs.Unique.Spelling.{value-json_tokens_back}
use Rattle.serde_json.specs.Data.{Data, null, boolean, number, string, array, object, Items, no_items, item, Members, no_members, member}
use Rattle.serde_json.specs.Data.{put}
use Rattle.serde_json.specs.Read.{number_of, of_json, of_items, of_members, max_depth, read}
use Rattle.serde_json.specs.Find.{get, get_member, as_array}
use Rattle.ipcz_script.specs.Shapes.{list_of, values_of}
use Rattle.ipcz_script.specs.Scripts.{values_in}

-- ---- a text has no more tokens than bytes, and one

short_step : (m : Mode) (c : Class) (x : ℕ) (xs : List ℕ) (k : Mode → List Lexeme) → ((n : Mode) → length (k n) ≤ length xs) →
    length (lex_byte m c x xs k) ≤ length xs + 1
short_step between quote x xs k h = omega (arith, h in_string)
short_step between backslash x xs k h = omega (arith, h in_word)
short_step between operator x xs k h = omega (arith, h between)
short_step between space x xs k h = omega (arith, h between)
short_step between other x xs k h = omega (arith, h in_word)
short_step in_word quote x xs k h = omega (arith, h in_word)
short_step in_word backslash x xs k h = omega (arith, h in_word)
short_step in_word operator x xs k h = omega (arith, h between)
short_step in_word space x xs k h = omega (arith, h between)
short_step in_word other x xs k h = omega (arith, h in_word)
short_step in_string quote x xs k h = omega (arith, h between)
short_step in_string backslash x xs k h = omega (arith, h in_escape)
short_step in_string operator x xs k h = omega (arith, h in_string)
short_step in_string space x xs k h = omega (arith, h in_string)
short_step in_string other x xs k h = omega (arith, h in_string)
short_step in_escape c x xs k h = omega (arith, h in_string)

length-lex : (m : Mode) (text : List ℕ) → length (lex m text) ≤ length text
unfolding lex
length-lex m [] = omega arith
length-lex m (x ∷ xs) = omega (arith, short_step m (class x) x xs (λ next. lex next xs) (λ next. length-lex next xs))

allowed : (b : Bool) (t : Token) (k : Place → List Token) (next : Place) (n : ℕ) → ((p : Place) → length (k p) ≤ n + 1) →
    length (if_allowed b t k next) ≤ n + 2
allowed true t k next n h = omega (arith, h next)
allowed false t k next n h = omega arith

placed : (p : Place) (t : Token) (b : Bool) (k : Place → List Token) (n : ℕ) → ((q : Place) → length (k q) ≤ n + 1) →
    length (place_token p t b k) ≤ n + 2
placed p tokened.begin_object b k n h = allowed (may_begin p) _ k _ n h
placed p tokened.end_object b k n h = allowed (may_close p) _ k _ n h
placed p tokened.begin_array b k n h = allowed (may_begin p) _ k _ n h
placed p tokened.end_array b k n h = allowed (may_close p) _ k _ n h
placed p (tokened.key s) b k n h = omega arith
placed p (tokened.string s) true k n h = allowed (may_begin p) _ k _ n h
placed p (tokened.string s) false k n h = allowed (may_begin p) _ k _ n h
placed p (tokened.number s) b k n h = allowed (may_begin p) _ k _ n h
placed p (tokened.boolean v) b k n h = allowed (may_begin p) _ k _ n h
placed p tokened.null b k n h = allowed (may_begin p) _ k _ n h
placed p tokened.bad b k n h = omega arith

length-punctuate : (ls : List Lexeme) (p : Place) → length (punctuate p ls) ≤ length ls + 1
unfolding punctuate
length-punctuate [] fresh = omega arith
length-punctuate [] after_value = omega arith
length-punctuate [] after_comma = omega arith
length-punctuate [] after_key = omega arith
length-punctuate (token t ∷ ls) p = omega (arith, placed p t (begins_colon ls) (λ n. punctuate n ls) (length ls) (length-punctuate ls))
length-punctuate (comma ∷ ls) fresh = omega arith
length-punctuate (comma ∷ ls) after_value = omega (arith, length-punctuate ls after_comma)
length-punctuate (comma ∷ ls) after_comma = omega arith
length-punctuate (comma ∷ ls) after_key = omega arith
length-punctuate (colon ∷ ls) fresh = omega arith
length-punctuate (colon ∷ ls) after_value = omega arith
length-punctuate (colon ∷ ls) after_comma = omega arith
length-punctuate (colon ∷ ls) after_key = omega (arith, length-punctuate ls fresh)

length-tokens : (text : List ℕ) → length (tokens text) ≤ length text + 1
length-tokens text = omega (arith, length-punctuate (lex between text) fresh, length-lex between text)

-- ---- the items of a value's arrays

-- at least as many as any array of the value has items
abbrev mutual
  pub width : Data → ℕ
  width null = 0
  width (boolean b) = 0
  width (number n) = 0
  width (string s) = 0
  width (array ds) = items_width ds
  width (object ms) = members_width ms

  pub items_width : Items → ℕ
  items_width no_items = 0
  items_width (item d ds) = suc (width d + items_width ds)

  pub members_width : Members → ℕ
  members_width no_members = 0
  members_width (member k d ms) = max (width d) (members_width ms)

abbrev AtMost : {A : Type 0} → (A → ℕ) → ℕ → Option A → Type 0
AtMost f n None = ⊤
AtMost f n (Some a) = f a ≤ n

AtMost-map : {A B : Type 0} (f : A → ℕ) (g : B → ℕ) (m n : ℕ) (h : A → B) → ((a : A) → f a ≤ m → g (h a) ≤ n) → (o : Option A) →
    AtMost f m o → AtMost g n (option_map h o)
AtMost-map f g m n h k None x = tt
AtMost-map f g m n h k (Some a) x = k a x

AtMost-and_then : {A B : Type 0} (f : A → ℕ) (g : B → ℕ) (m n : ℕ) (h : A → Option B) → ((a : A) → f a ≤ m → AtMost g n (h a)) →
    (o : Option A) → AtMost f m o → AtMost g n (option_and_then h o)
AtMost-and_then f g m n h k None x = tt
AtMost-and_then f g m n h k (Some a) x = k a x

flat : {A : Type 0} (o : Option A) → AtMost (λ _. 0) 0 o
flat None = tt
flat (Some a) = omega arith

members_width-match_ordering : (o : Ordering) (a b c : Members) (n : ℕ) → members_width a ≤ n → members_width b ≤ n → members_width c ≤ n →
    members_width (match_ordering o a b c) ≤ n
members_width-match_ordering Less a b c n p q r = p
members_width-match_ordering Equal a b c n p q r = q
members_width-match_ordering Greater a b c n p q r = r

members_width-put : (k : List ℕ) (d : Data) (ms : Members) (n : ℕ) → width d ≤ n → members_width ms ≤ n → members_width (put k d ms) ≤ n
members_width-put k d no_members n p q = omega arith
members_width-put k d (member l e ms) n p q =
    members_width-match_ordering _ (member k d (member l e ms)) (member l d ms) (member l e (put k d ms)) n (omega arith) (omega arith)
    (omega (arith, members_width-put k d ms n p (omega arith)))

-- each value has one token more than its arrays have items
mutual
  width-of_json : (j : json.Json) (n : ℕ) → length (json_tokens j) ≤ n → AtMost (λ d. suc (width d)) n (of_json j)
  width-of_json json.null n h = omega arith
  width-of_json (json.boolean b) n h = omega arith
  width-of_json (json.number s) n h = AtMost-map (λ _. 0) (λ d. suc (width d)) 0 n number (λ a x. omega arith) (number_of s) (flat _)
  width-of_json (json.string s) n h = omega arith
  width-of_json (json.array js) n h = AtMost-map items_width (λ d. suc (width d)) (length (items_tokens js)) n array (λ a x. omega arith) _
      (width-of_items js _ (omega arith))
  width-of_json (json.object ms) n h = AtMost-map members_width (λ d. suc (width d)) (length (members_tokens ms)) n object
      (λ a x. omega arith) _ (width-of_members ms no_members _ (omega arith) (omega arith))

  width-of_items : (js : json.Items) (n : ℕ) → length (items_tokens js) ≤ n → AtMost items_width n (of_items js)
  width-of_items json.no_items n h = omega arith
  width-of_items (json.item j js) n h =
      let parts = length-append (json_tokens j) (items_tokens js) in
      AtMost-and_then (λ d. suc (width d)) items_width (length (json_tokens j)) n _
      (λ d x. AtMost-map items_width items_width (length (items_tokens js)) n (item d) (λ ds y. omega (arith, parts)) _
      (width-of_items js _ (omega arith))) _ (width-of_json j _ (omega arith))

  width-of_members : (ms : json.Members) (found : Members) (n : ℕ) → length (members_tokens ms) ≤ n → members_width found ≤ n →
      AtMost members_width n (of_members ms found)
  width-of_members json.no_members found n h k = k
  width-of_members (json.member name j ms) found n h k =
      let parts = length-append (json_tokens j) (members_tokens ms) in
      AtMost-and_then (λ d. suc (width d)) members_width n n _ (λ d x. width-of_members ms (put name d found) n (omega (arith, parts))
      (members_width-put name d found n (omega arith) k)) _ (width-of_json j n (omega (arith, parts)))

last_within : (o : Option (json.Json × List Token)) (n : ℕ) → ((j : json.Json) (r : List Token) → o ≡ Some (j, r) →
    length (json_tokens j) ≤ n) → AtMost (λ j. length (json_tokens j)) n (option_and_then (λ p. json.if_last p.0 p.1) o)
last_within None n h = tt
last_within (Some (j, [])) n h = h j [] refl
last_within (Some (j, t ∷ r)) n h = tt

width-read : (text : List ℕ) (d : Data) → read text ≡ Some d → width d ≤ length text
width-read text d e =
    let n = length text + 1 in
    let all : AtMost (λ d. suc (width d)) n (Some d) = subst (AtMost (λ d. suc (width d)) n) e
    (AtMost-and_then (λ j. length (json_tokens j)) (λ d. suc (width d)) n n of_json (λ j x. width-of_json j n x) _
    (last_within _ n (λ j r is. let whole = ap length (value-json_tokens_back max_depth (tokens text) r j is) ∙
    length-append (json_tokens j) r in omega (arith, length-tokens text, whole)))) in
    omega (arith, all)

-- ---- the values that are to be commands

get_member-match_ordering : (o : Ordering) (a b c : Option Data) (n : ℕ) → AtMost width n a → AtMost width n b → AtMost width n c →
    AtMost width n (match_ordering o a b c)
get_member-match_ordering Less a b c n p q r = p
get_member-match_ordering Equal a b c n p q r = q
get_member-match_ordering Greater a b c n p q r = r

width-get_member : (k : List ℕ) (ms : Members) (n : ℕ) → members_width ms ≤ n → AtMost width n (get_member k ms)
width-get_member k no_members n h = tt
width-get_member k (member l e ms) n h =
    let rest = width-get_member k ms n (omega arith) in
    get_member-match_ordering (slice_cmp nat_cmp k l) (get_member k ms) (Some e) (get_member k ms) n rest (omega arith) rest

width-get : (k : List ℕ) (d : Data) → AtMost width (width d) (get k d)
width-get k null = tt
width-get k (boolean b) = tt
width-get k (number n) = tt
width-get k (string s) = tt
width-get k (array ds) = tt
width-get k (object ms) = width-get_member k ms _ (omega arith)

width-as_array : (d : Data) (n : ℕ) → width d ≤ n → AtMost items_width n (as_array d)
width-as_array null n h = tt
width-as_array (boolean b) n h = tt
width-as_array (number m) n h = tt
width-as_array (string s) n h = tt
width-as_array (array ds) n h = h
width-as_array (object ms) n h = tt

length-list_of : (ds : Items) → length (list_of ds) ≤ items_width ds
length-list_of no_items = omega arith
length-list_of (item d ds) = omega (arith, length-list_of ds)

few_values : (d : Data) → AtMost length (width d) (values_in d)
few_values d = AtMost-and_then width length (width d) (width d) values_of
    (λ e x. AtMost-map items_width length (width d) (width d) list_of (λ ds y. omega (arith, length-list_of ds)) _
    (width-as_array e (width d) x)) _
    (width-get (codes "commands") d)

-- a text has no more values that are to be commands than it has bytes
pub length-values_in : (text : List ℕ) (d : Data) (vs : List Data) → read text ≡ Some d → values_in d ≡ Some vs → length vs ≤ length text
length-values_in text d vs is found =
    let few : AtMost length (width d) (Some vs) = subst (AtMost length (width d)) found (few_values d) in
    omega (arith, few, width-read text d is)
