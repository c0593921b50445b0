-- The theorem, from the laws.
use Rattle.std.specs.Prelude.{◌≡◌, ℕ, zero, suc, Some, List, [], ◌∷◌, slice_get}
use Rattle.std.proofs.Common.{subst}
use Rattle.std.proofs.lemmas.Option.{same_Some}
use Rattle.ipcz_world.proofs.Vocabulary.{Step, advance, Routes, routes_after, Lawful}
use Rattle.ipcz_world.specs.declared.step.Reply.{Reply}
use Rattle.ipcz_world.specs.World.{World}
use Rattle.ipcz_world.specs.Books.{Books}
use Rattle.ipcz_world.specs.Lawful.{RunAny, IsReached, Headline}
use Rattle.ipcz_world.specs.WorldLaws.{OnlyFlushesStray}
use Rattle.ipcz_world.specs.Theorem.{TheTheoremHolds}
use Rattle.ipcz_world.proofs.runs.Running.{reached_lawful}
use Rattle.ipcz_world.proofs.lawful.Rating.{turns_keep_rates}
use Rattle.ipcz_world.proofs.lawful.Turning.{turns_are_bounded}
use Rattle.ipcz_world.proofs.lawful.Unused.{unused_is_quiet}
use Rattle.ipcz_world.proofs.Whole.{world_starts_lawful, each_step_keeps_lawful, runs_are_plain, lawful_worlds_give_the_headline}
use Rattle.ipcz_world.proofs.Whole.{each_item_stands_once, ends_stand_once, lawful_worlds_stray_nothing, only_flushes_stray}
use Rattle.ipcz_world.proofs.Whole.{each_begins_locked, lawful_worlds_owe}
use Rattle.ipcz_world.proofs.Whole.{quiet_has_no_proxy, each_quiet_is_direct, closed_pairs_are_gone, replies_plainly}

-- the replies of a run from a lawful world
replies_fit : (w v : World) (b c : Books) (g h : Routes) (steps : List Step) (replies : List Reply) → Lawful w b g →
    RunAny w b g steps replies v c h → (i : ℕ) (reply : Reply) → slice_get replies i ≡ Some reply → OnlyFlushesStray reply
replies_fit w v b c g h [] [] law run i reply e = cc
replies_fit w v b c g h [] (r ∷ rs) law run i reply e = absurd run
replies_fit w v b c g h (s ∷ ss) [] law run i reply e = absurd run
replies_fit w v b c g h (s ∷ ss) (r ∷ rs) law run zero reply e =
    subst OnlyFlushesStray (same_Some r reply e) (only_flushes_stray w run.0 b g s r law run.1)
replies_fit w v b c g h (s ∷ ss) (r ∷ rs) law run (suc i) reply e =
    replies_fit run.0 v (advance w b s r) c (routes_after w g s r) h ss rs
    (each_step_keeps_lawful w run.0 b g s r law run.1) run.2 i reply e

pub the_theorem_holds : TheTheoremHolds
the_theorem_holds nodes words steps replies w b g limits run =
    let is : IsReached nodes words w b g = record { limits = limits; steps = steps; replies = replies; run = run } in
    let law : Lawful w b g = reached_lawful world_starts_lawful each_step_keeps_lawful nodes words w b g is in
    let line : Headline w b g = lawful_worlds_give_the_headline w b g law in
    let fine = lawful_worlds_stray_nothing w b g law in
    record {
      one_machine = runs_are_plain nodes words w b g is;
      in_order = line.got_prefix;
      each_once = each_item_stands_once w b g line;
      dropped_by_sinks = line.dropped_by_sinks;
      held_once = ends_stand_once w b g law;
      links = law.link_law;
      bypasses = law.bypass_law;
      begins_locked = λ step reply v s. each_begins_locked w v b g step reply law s;
      words = law.word_law;
      lengths = fine.0;
      strays = fine.1;
      replies_fit = λ i reply e. replies_fit _ w _ b _ g steps replies (world_starts_lawful nodes words limits) run i reply e;
      owed = lawful_worlds_owe w b g law;
      quiet_is_direct = λ quiet wet. (
        quiet_has_no_proxy w b g law quiet wet,
        closed_pairs_are_gone w b g law quiet wet,
        λ pair s opened open_. each_quiet_is_direct w b g pair s law quiet wet opened open_,
      );
      left_alone = λ turns c v d h rated taken. turns_are_bounded each_step_keeps_lawful
          (turns_keep_rates each_step_keeps_lawful replies_plainly)
          w v b d g h c turns law rated taken;
      unused_is_quiet = unused_is_quiet w b g law;
    }
