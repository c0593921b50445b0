-- A JSON text has no line feed, and the values of a log's lines have no floats and aren't deep.
use Rattle.std.proofs.Common.{◌≡◌, ◌∙◌, ℕ, suc, ◌≤◌, ◌+◌, ◌/◌, ◌%◌, Bool, true, false, cond, not, pos, negsuc, List, [], ◌∷◌, ◌++◌, refl, sym, ap, arith, decimal}
use Rattle.std.specs.Prelude.{IsUtf8, ◌==◌, ◌&&◌, ◌||◌, nat_lt}
use Rattle.std.specs.Char.{digit_char}
use Rattle.std.proofs.lemmas.Bool.Decides.{nat_tests}
use Rattle.json.specs.Print.{escape, escape_byte, escape_letter, quoted}
use Rattle.serde_json.specs.Data.{Num, unsigned, negative, float, Data, null, boolean, number, string, array, object, Items, no_items, item, Members, no_members, member, depth, items_depth}
use Rattle.serde_json.specs.Read.{max_depth}
use Rattle.serde_json.specs.Written.{comma_if, compact_text, has_float, items_have_float, items_text, members_text, number_text}
use Rattle.ipcz_script.specs.declared.command.Command.{Command}
use Rattle.ipcz_script.specs.declared.command.Command.TheVariants as commands
use Rattle.ipcz_script.specs.ReadBack.{lacks}
use Rattle.ipcz_script.proofs.Feeds.{decimal_lacks, lacks-append}
use Rattle.ipcz_events.specs.declared.entry.Entry.{Entry}
use Rattle.ipcz_events.specs.declared.entry.Entry.TheVariants as entries
use Rattle.ipcz_events.specs.Written.{HasByte, IsTextOf, IsWritten, call_items, entry_data, header_data, own_text, texts}

-- ---- no line feed

numeral : (n : ℕ) → lacks 10 (decimal n) ≡ true
numeral n = decimal_lacks 10 n (λ h. omega (arith, h.0))

one_byte : (x : ℕ) → (x == 10) ≡ false → lacks 10 (x ∷ []) ≡ true
one_byte x e = ap (λ c. not c && true) e

apart : (n : ℕ) → (n ≡ 10 → ⊥) → (n == 10) ≡ false
apart n other = go (n == 10) refl
  where
    go : (c : Bool) → (n == 10) ≡ c → c ≡ false
    go true e = let same : n ≡ 10 = grind (arith, e, nat_tests) in absurd (other same)
    go false e = refl

letter_lacks : (x : ℕ) → lacks 10 (escape_letter x ∷ []) ≡ true
letter_lacks x = go ((x == 34) || (x == 92)) (x == 8) (x == 12) (x == 10) (x == 13) (x == 9) refl
  where
    other : (p q : Bool) → (x == 34) ≡ p → (x == 92) ≡ q → (p || q) ≡ true → x ≡ 10 → ⊥
    other true q h k both ten = let same : x ≡ 34 = grind (arith, h, nat_tests) in omega (arith, same, ten)
    other false true h k both ten = let same : x ≡ 92 = grind (arith, k, nat_tests) in omega (arith, same, ten)
    other false false h k both ten = cc

    go : (a b c d e f : Bool) → ((x == 34) || (x == 92)) ≡ a → lacks 10 (cond a x (cond b 98 (cond c 102 (cond d 110 (cond e 114 (cond f 116 0))))) ∷ []) ≡ true
    go true b c d e f is = one_byte x (apart x (other (x == 34) (x == 92) refl refl is))
    go false true c d e f is = refl
    go false false true d e f is = refl
    go false false false true e f is = refl
    go false false false false true f is = refl
    go false false false false false true is = refl
    go false false false false false false is = refl

digit_lacks : (d : ℕ) (rest : List ℕ) → lacks 10 rest ≡ true → lacks 10 (digit_char d ∷ rest) ≡ true
digit_lacks d rest h = ap (λ c. not c && lacks 10 rest) (go (nat_lt d 10)) ∙ h
  where
    go : (c : Bool) → (cond c (48 + d) (87 + d) == 10) ≡ false
    go true = apart (48 + d) (λ e. omega (arith, e))
    go false = apart (87 + d) (λ e. omega (arith, e))

byte_lacks : (x : ℕ) → lacks 10 (escape_byte x) ≡ true
unfolding escape_byte
byte_lacks x = go (nat_lt 0 (escape_letter x)) (nat_lt x 32) refl
  where
    go : (a b : Bool) → nat_lt x 32 ≡ b → lacks 10 (cond a (92 ∷ escape_letter x ∷ []) (cond b (92 ∷ 117 ∷ 48 ∷ 48 ∷ digit_char (x / 16) ∷ digit_char (x % 16) ∷ []) (x ∷ []))) ≡ true
    go true b is = letter_lacks x
    go false true is = digit_lacks (x / 16) (digit_char (x % 16) ∷ []) (digit_lacks (x % 16) [] refl)
    go false false is = one_byte x (apart x (λ e. let small : nat_lt x 32 ≡ true = ap (λ n. nat_lt n 32) e in let never : false ≡ true = sym is ∙ small in cc))

escape_lacks : (s : List ℕ) → lacks 10 (escape s) ≡ true
escape_lacks [] = refl
escape_lacks (x ∷ s) = lacks-append 10 (escape_byte x) (escape s) (byte_lacks x) (escape_lacks s)

quoted_lacks : (s : List ℕ) → lacks 10 (quoted s) ≡ true
quoted_lacks s = lacks-append 10 (escape s) (34 ∷ []) (escape_lacks s) refl

number_lacks : (n : Num) → lacks 10 (number_text n) ≡ true
number_lacks (unsigned n) = numeral n
number_lacks (negative (pos n)) = numeral n
number_lacks (negative (negsuc n)) = numeral (suc n)
number_lacks (float x) = refl

behind_comma : (later : Bool) (rest : List ℕ) → lacks 10 rest ≡ true → lacks 10 (comma_if later ++ rest) ≡ true
behind_comma true rest h = h
behind_comma false rest h = h

mutual
  pub text_lacks : (d : Data) → lacks 10 (compact_text d) ≡ true
  text_lacks null = refl
  text_lacks (boolean true) = refl
  text_lacks (boolean false) = refl
  text_lacks (number n) = number_lacks n
  text_lacks (string s) = quoted_lacks s
  text_lacks (array ds) = items_lack false ds
  text_lacks (object ms) = members_lack false ms

  items_lack : (later : Bool) (ds : Items) → lacks 10 (items_text later ds) ≡ true
  items_lack later no_items = refl
  items_lack later (item d ds) = behind_comma later _ (lacks-append 10 (compact_text d) (items_text true ds) (text_lacks d) (items_lack true ds))

  members_lack : (later : Bool) (ms : Members) → lacks 10 (members_text later ms) ≡ true
  members_lack later no_members = refl
  members_lack later (member k d ms) =
      behind_comma later _ (lacks-append 10 (quoted k) (58 ∷ (compact_text d ++ members_text true ms)) (quoted_lacks k)
      (lacks-append 10 (compact_text d) (members_text true ms) (text_lacks d) (members_lack true ms)))

-- ---- no floats, and not deep

texts_whole : (ts : List (List ℕ)) → items_have_float (texts ts) ≡ false
texts_whole [] = refl
texts_whole (t ∷ ts) = texts_whole ts

texts_flat : (ts : List (List ℕ)) → items_depth (texts ts) ≤ 0
texts_flat [] = omega arith
texts_flat (t ∷ ts) = omega (arith, texts_flat ts)

pub call_whole : (c : Command) → items_have_float (call_items c) ≡ false
call_whole (commands.Open node first second) = refl
call_whole (commands.Put at text ends) = ap (λ b. b || false) (texts_whole ends)
call_whole (commands.Get at) = refl
call_whole (commands.Close at) = refl
call_whole commands.Show = refl
call_whole (commands.Turn node count) = refl
call_whole (commands.Settle limit) = refl

pub call_flat : (c : Command) → items_depth (call_items c) ≤ 1
call_flat (commands.Open node first second) = omega arith
call_flat (commands.Put at text ends) = omega (arith, texts_flat ends)
call_flat (commands.Get at) = omega arith
call_flat (commands.Close at) = omega arith
call_flat commands.Show = omega arith
call_flat (commands.Turn node count) = omega arith
call_flat (commands.Settle limit) = omega arith

pub entry_whole : (e : Entry) → has_float (entry_data e) ≡ false
entry_whole (entries.Call c text) = ap (λ b. b || false) (call_whole c)
entry_whole (entries.Acted n text) = refl

pub entry_flat : (e : Entry) → depth (entry_data e) ≤ max_depth
entry_flat (entries.Call c text) = omega (arith, call_flat c)
entry_flat (entries.Acted n text) = omega arith

pub header_flat : (nodes words seed : ℕ) → depth (header_data nodes words seed) ≤ max_depth
header_flat nodes words seed = omega arith

-- the text of its value is a line
pub written_so : (e : Entry) (text : List ℕ) → HasByte e → IsTextOf text (entry_data e) → IsWritten e text
written_so e text byte is = record { byte = byte; line = is.line; value = λ utf8. is }

-- what has none is another line
pub unwritten : (e : Entry) (text : List ℕ) → HasByte e → lacks 10 text ≡ true → (IsUtf8 (own_text e) → ⊥) → IsWritten e text
unwritten e text byte line never = record { byte = byte; line = line; value = λ utf8. absurd (never utf8) }
