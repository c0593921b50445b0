-- What the code needs of a world holds of each lawful one; and a step for a node that isn't there is refused.
use Rattle.ipcz_world.proofs.frames.RolesTell.{links-in}
use Rattle.std.specs.Prelude.{◌≡◌, ◌≤◌, ℕ, false, nat_lt, Option, Some, None, option_map, List}
use Rattle.std.proofs.Common.{arith, ap, refl, inl}
use Rattle.std.proofs.lemmas.Bool.Decides.{nat_tests}
use Rattle.ipcz_world.proofs.Vocabulary.{End, Reply, World, Router, LinkEnd, inward_edge, opposite, node_at, router_at, router_in, Profile, Step}
use Rattle.ipcz_world.proofs.Vocabulary.{Turn, source_of, next_at, Effect, refuse, at_node, IsLawful, IsRegular}
use Rattle.ipcz_base.specs.declared.profile.Profile.TheVariants as profiles
use Rattle.ipcz_base.specs.declared.refusal.Refusal.TheVariants.{Stranger}
use Rattle.ipcz_world.specs.declared.step.Step.TheVariants.{Open, Put, PutWide, Get, Close}
use Rattle.ipcz_world.specs.declared.step.Reply.TheVariants.{Refused}
use Rattle.ipcz_word.specs.Laws.{HasNode}
use Rattle.ipcz_world.specs.Steps.{Gives, PutGives, first_step, put_of, put_step, StepFirst}
use Rattle.ipcz_world.specs.World.{word_at}
use Rattle.ipcz_world.specs.Records.{is_linked}
use Rattle.ipcz_world.specs.Coding.{AreUnclaimedEmpty}
use Rattle.ipcz_world.specs.Taking.{node_of}
use Rattle.ipcz_world.proofs.Whole.{lists_have_lengths}
use Rattle.ipcz_world.proofs.lawful.Soundness.{node_names_claimed}
use Rattle.ipcz_world.proofs.runs.Choosing.{first_taken}

-- the node across an inward primary link is one of the world, so it is among so few
sourced : (w : World) (law : IsLawful w) (n serial : ℕ) (r : Router) → router_in (node_at w n) serial ≡ Some r → HasNode (source_of r)
unfolding router_at
sourced w law n serial r here = go (inward_edge r).primary refl
  where
    go : (o : Option LinkEnd) → (inward_edge r).primary ≡ o → HasNode (option_map (λ (e : LinkEnd). e.other) o)
    go None h = tt
    go (Some e) h =
        let is = ((links-in law.lawful.inv) (record { node = n; serial = serial }) r here).inward_primary e h in
        omega (
          arith,
          is.other,
          law.lawful.inv.counts.side_on_node e.link (opposite e.side) is.recorded,
          (lists_have_lengths w law.books law.routes law.lawful).few,
        )

-- in a lawful world the words from the claim count on are empty
pub unclaimed-empty : (w : World) → IsLawful w → AreUnclaimedEmpty w.words w.claimed
unfolding word_at is_linked
unclaimed-empty w law i l = let words = law.lawful.word_law in words.unused i (ap is_linked (words.unclaimed i l))

-- a lawful world is regular
pub lawful-regular : (w : World) → IsLawful w → IsRegular w
lawful-regular w law = record {
  lengths = lists_have_lengths w law.books law.routes law.lawful;
  sound = λ n l. node_names_claimed w law.books law.lawful.records law.lawful.inv n l;
  sourced = λ n serial r l here. sourced w law n serial r here;
  possible = λ n act l first. first_taken w law.books law.lawful.records law.lawful.inv n l act first;
}

far : (w : World) (n : ℕ) (done : Effect) → w.count ≤ n → at_node w n done ≡ refuse w Stranger
far w n done l = let h : nat_lt n w.count ≡ false = grind (arith, l, nat_tests) in rw h refl

-- a node that isn't there is a stranger
pub stranger : (w : World) (step : Step) → w.count ≤ node_of step → StepFirst w step (Refused Stranger) w
unfolding node_of
stranger w (Open n) l = rw (far w n _ l) (inl (refl, refl))
stranger w (Put n at bytes ends) l = rw (far w n _ l) (inl (refl, refl))
stranger w (PutWide n at bytes ends) l = rw (far w n _ l) (inl (refl, refl))
stranger w (Get n at) l = rw (far w n _ l) (refl, refl)
stranger w (Close n at) l = rw (far w n _ l) (inl (refl, refl))
stranger w (Turn n) l = (next_at w n, inl refl, rw (far w n _ l) (inl (refl, refl)))

-- so is a put there, of whichever profile
pub put-stranger : (profile : Profile) (w : World) (n : ℕ) (at : End) (bytes : List ℕ) (ends : List End) → w.count ≤ n →
    StepFirst w (put_of profile n at bytes ends) (Refused Stranger) w
unfolding node_of
put-stranger profiles.Printed w n at bytes ends l = stranger w (Put n at bytes ends) l
put-stranger profiles.Wide w n at bytes ends l = stranger w (PutWide n at bytes ends) l

-- what a put gives, as a step
pub put-step : (profile : Profile) (w v : World) (n : ℕ) (at : End) (bytes : List ℕ) (ends : List End) (reply : Reply) →
    PutGives w n (put_step profile w n at (record { bytes = bytes; ends = ends })) reply v → StepFirst w (put_of profile n at bytes ends) reply v
put-step profiles.Printed w v n at bytes ends reply gives = gives
put-step profiles.Wide w v n at bytes ends reply gives = gives

-- and its step gives no more than that
pub stranger-gives : (w : World) (step : Step) → w.count ≤ node_of step → Gives (first_step w step) (Refused Stranger) w
unfolding node_of first_step
stranger-gives w (Open n) l = rw (far w n _ l) (refl, refl)
stranger-gives w (Put n at bytes ends) l = rw (far w n _ l) (refl, refl)
stranger-gives w (PutWide n at bytes ends) l = rw (far w n _ l) (refl, refl)
stranger-gives w (Get n at) l = rw (far w n _ l) (refl, refl)
stranger-gives w (Close n at) l = rw (far w n _ l) (refl, refl)
stranger-gives w (Turn n) l = rw (far w n _ l) (refl, refl)
