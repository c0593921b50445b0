-- What a get of a cell gives is as large as what it was to give, and so there is room for it.
use Rattle.std.proofs.Common.{◌≡◌, ℕ, Option, Some, true, false, ap, sym, ◌∙◌, arith, refl}
use Rattle.std.specs.Prelude.{Bool, None, not, if◌then◌else◌, option_map, Result, Ok, Err, IfOk, OnOk}
use Rattle.ipcz_base.specs.declared.end.End.{End}
use Rattle.ipcz_base.specs.declared.parcel.Parcel as parcels
use Rattle.ipcz_base.specs.declared.parcel.Sizes.{Sizes}
use Rattle.ipcz_base.specs.declared.refusal.Refusal.{Refusal}
use Rattle.ipcz_base.specs.declared.refusal.Refusal.TheVariants.{Stranger}
use Rattle.ipcz_base.specs.Items.{sizes_of}
use Rattle.ipcz_node.specs.Node.{Node, holds_end, terminal_of}
use Rattle.ipcz_node.specs.Calls.{get_refusal, got_at, next_sizes, refusal_at}
use Rattle.ipcz_router.specs.Calls.{router_get_refusal}
use Rattle.ipcz_world.specs.Steps.{sizes_given}
use Rattle.ipcz_c.specs.CellCalls.{get_answer}
use Rattle.ipcz_c.specs.Told.{fits}

with_held : (held : Bool) (refusal : Option Refusal) (got : Option (ℕ × parcels.Parcel)) (g : ℕ × parcels.Parcel) →
    (if not held then Some Stranger else refusal) ≡ None → got ≡ Some g →
    (if held then option_map (λ (x : ℕ × parcels.Parcel). sizes_of x.1) got else None) ≡ Some (sizes_of g.1)
with_held true refusal got g allowed is = ap (option_map (λ (x : ℕ × parcels.Parcel). sizes_of x.1)) is
with_held false refusal got g allowed is = absurd (grind (arith, allowed))

-- what a get gives has the sizes that were told
pub sizes_got : (n : Node) (at : End) (answer : Result (ℕ × parcels.Parcel) Refusal) → OnOk answer (get_refusal n at ≡ None) →
    IfOk answer (λ g. got_at n at ≡ Some g) → IfOk answer (λ g. next_sizes n at ≡ Some (sizes_of g.1))
unfolding get_refusal
sizes_got n at (Ok g) allowed got = with_held (holds_end n at) (refusal_at (terminal_of n at) router_get_refusal) (got_at n at) g allowed got
sizes_got n at (Err why) allowed got = tt

-- and fits where these do
pub fits_got : (answer : Result (ℕ × parcels.Parcel) Refusal) (sizes : Option Sizes) (bytes portals : ℕ) →
    IfOk answer (λ g. sizes ≡ Some (sizes_of g.1)) → fits sizes bytes portals ≡ true → fits (sizes_given (get_answer answer)) bytes portals ≡ true
unfolding fits sizes_given get_answer
fits_got (Ok g) sizes bytes portals given fit = ap (λ (s : Option Sizes). fits s bytes portals) (sym given) ∙ fit
fits_got (Err why) sizes bytes portals given fit = refl
