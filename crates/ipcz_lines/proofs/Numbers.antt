-- Numbers in decimal, read and written.
use Rattle.std.proofs.Common.{◌≡◌, ◌≢◌, ℕ, zero, suc, ◌<◌, ◌≤◌, ◌^◌, List, length, get_or, Result, Ok, Err, Some, refl, sym, ap, ◌∙◌, subst}
use Rattle.std.proofs.Common.{arith}
use Rattle.std.specs.Fmt.{decimal}
use Rattle.std.specs.Str.{IsUtf8}
use Rattle.std.specs.Str.Parse.{AllDigits, digits_value, ParsesUnsigned}
use Rattle.std.specs.Result.{result_ok}
use Rattle.std.proofs.lemmas.Str.{IsUtf8-from_ascii}
use Rattle.std.proofs.lemmas.Str.Parse.{IsNumeralModel, numerals_by_value, tells_digits, parse_plain}
use Rattle.std.proofs.lemmas.Fmt.{decimal_digit, first_decimal, IsAscii-decimal, parse-decimal, decimal-digits_value, decimal_injective}
use Rattle.ipcz_lines.specs.LineParts.{BeginsPlainly, Reads, IsNumber}

no_sign : (n : ℕ) → 48 < n → n ≢ 43
no_sign n h e = omega arith

no_zero : (n k : ℕ) → 48 < n → n ≡ 48 → k ≡ 1
no_zero n k h e = absurd (omega arith)

pub BeginsPlainly-decimal : (n : ℕ) → n < 2 ^ 64 → BeginsPlainly (decimal n)
BeginsPlainly-decimal zero h = subst BeginsPlainly (sym (decimal_digit 0 (omega arith)))
    (record { no_sign = λ e. omega arith; no_zero = λ _. refl })
BeginsPlainly-decimal (suc k) h =
    let f = first_decimal (suc k) (omega arith) h in
    record {
      no_sign = no_sign (get_or (decimal (suc k)) 0 0) f;
      no_zero = no_zero (get_or (decimal (suc k)) 0 0) (length (decimal (suc k))) f;
    }

pub plain_decimal : (bs : List ℕ) (n : ℕ) → IsNumber n → decimal n ≡ bs → BeginsPlainly bs
plain_decimal bs n h e = subst BeginsPlainly e (BeginsPlainly-decimal n h)

pub utf8_decimal : (bs : List ℕ) (n : ℕ) → IsNumber n → decimal n ≡ bs → IsUtf8 bs
utf8_decimal bs n h e = subst IsUtf8 e (IsUtf8-from_ascii (decimal n) (IsAscii-decimal n h))

own : IsNumeralModel (AllDigits 10) (digits_value 10)
own = numerals_by_value (AllDigits 10) tells_digits

pub reads_decimal : {E : Type 0} (bs : List ℕ) (r : Result ℕ E) → ParsesUnsigned 64 10 bs r → BeginsPlainly bs →
    Reads decimal IsNumber bs (result_ok r)
reads_decimal {E} bs (Ok n) h plain =
    let p = parse_plain own {E = E} 64 bs (Ok n) h plain.no_sign in
    (rw p.1 p.0.2, ap decimal p.1 ∙ decimal-digits_value own bs p.0.0 p.0.1 plain.no_zero p.0.2)
reads_decimal bs (Err e) h plain = λ n small is. let r = parse-decimal 64 n bs (Err e) small small (sym is) h in cc

-- no smaller number has the text of a number
pub too_large : (bs : List ℕ) (n k : ℕ) → Reads decimal IsNumber bs (Some n) → k ≤ n → (x : ℕ) → x < k → decimal x ≢ bs
too_large bs n k h above x below e =
    let i = decimal_injective x n (omega (arith, h.0)) h.0 (e ∙ sym h.1) in
    omega arith
