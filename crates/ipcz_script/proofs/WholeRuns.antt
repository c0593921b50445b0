-- Some bytes were read, something was made of them, and that was written: what each program that reads a script does.
use Rattle.std.proofs.Common.{◌≡◌, ◌+◌, ◌≤◌, ◌<◌, ℕ, List, Option, length, subst, arith}
use Rattle.std.specs.Prelude.{Ok, Err}
use Rattle.std.specs.Io.KnownBytes.{Appends, Consumes, IsAtEnd}
use Rattle.ipcz_device.specs.WholeIo.{AppendsFront}
use Rattle.ipcz_script.specs.declared.run_fault.RunFault.TheVariants as faults
use Rattle.ipcz_script.specs.Reading.{max_bytes}
use Rattle.ipcz_script.specs.Transcript.{IsInput, Outputs, ReadsAndWritesBy}

-- what reading up to one byte more than a script may have gives
pub read-input : (before after : Option (List ℕ)) (input : List ℕ) → Consumes before after input → length input ≤ max_bytes + 1 →
    (length input < max_bytes + 1 → IsAtEnd after) → IsInput before after input
read-input before after input taken few whole = record { taken = taken; most = few; whole = λ h. whole (omega (arith, h)) }

-- all that was made of it is written
pub whole-written : {A : Type 0} (is : Outputs A) (before after old new : Option (List ℕ)) (input seen text sent : List ℕ) (answer : A) →
    IsInput before after input → seen ≡ input → is seen answer text → sent ≡ text → Appends old new sent →
    ReadsAndWritesBy is before after old new (Ok answer)
whole-written is before after old new input seen text sent answer read same made all written =
    (input, text, read, subst (λ bytes. is bytes answer text) same made, subst (Appends old new) all written)

-- a write fails, so some front of it is written
pub front-written : {A : Type 0} (is : Outputs A) (before after old new : Option (List ℕ)) (input seen text sent : List ℕ) (answer : A) →
    IsInput before after input → seen ≡ input → is seen answer text → sent ≡ text → AppendsFront old new sent →
    ReadsAndWritesBy is before after old new (Err faults.Write)
front-written is before after old new input seen text sent answer read same made all written =
    (input, answer, text, read, subst (λ bytes. is bytes answer text) same made, subst (AppendsFront old new) all written)
