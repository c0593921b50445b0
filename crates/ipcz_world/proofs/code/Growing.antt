-- A world to which words were added, or which is as it was since there was no room for them, is lawful still.
use Rattle.std.specs.Prelude.{◌≡◌, ℕ, Result, Ok, Err, OnOk, OnErr}
use Rattle.std.proofs.Common.{subst, sym}
use Rattle.ipcz_world.proofs.Vocabulary.{World, Books, Routes, Lawful, IsLawful}
use Rattle.ipcz_world.specs.HeldEnds.{grown}
use Rattle.ipcz_world.proofs.runs.PassingOver.{growing_keeps_lawful}

pub keeps_books : {X E : Type 0} (result : Result X E) (w v : World) (count : ℕ) → OnOk result (v ≡ grown w count) →
    OnOk result ((b : Books) → (g : Routes) → Lawful w b g → Lawful v b g)
keeps_books (Ok x) w v count is = λ b g law. subst (λ (u : World). Lawful u b g) (sym is) (growing_keeps_lawful w b g count law)
keeps_books (Err e) w v count is = tt

pub stays_lawful : {X E : Type 0} (result : Result X E) (w v : World) (count : ℕ) → OnOk result (v ≡ grown w count) → OnErr result (v ≡ w) →
    IsLawful w → IsLawful v
stays_lawful (Ok x) w v count is same law = subst IsLawful (sym is)
    (record { books = law.books; routes = law.routes; lawful = growing_keeps_lawful w law.books law.routes count law.lawful })
stays_lawful (Err e) w v count is same law = subst IsLawful (sym same) law
