-- The theorem holds of runs in which claims pass over numbers, or find no word for a while.
use Rattle.std.specs.Prelude.{◌≡◌, ℕ, zero, suc, Some, List, [], ◌∷◌, slice_get}
use Rattle.std.proofs.Common.{subst, sym}
use Rattle.std.proofs.lemmas.Option.{same_Some}
use Rattle.ipcz_world.proofs.Vocabulary.{World, Books, Reply, new_world, no_books, advance, Routes, routes_after, Lawful}
use Rattle.ipcz_world.specs.Routes.{first_routes}
use Rattle.ipcz_world.specs.Lawful.{Headline}
use Rattle.ipcz_world.specs.Plain.{PlainRun}
use Rattle.ipcz_world.specs.WorldLaws.{OnlyFlushesStray}
use Rattle.ipcz_world.specs.HeldEnds.{passed_over, lose_words, grown, wet_act}
use Rattle.ipcz_world.specs.HeldEnds.{dry_act}
use Rattle.ipcz_world.specs.Lasting.{Deed, Steps, Passes, Grows, Dries, Wets, LastingRun, steps_in, replies_in, LastingRunsKeepTheTheorem}
use Rattle.ipcz_world.proofs.Whole.{world_starts_lawful, each_step_keeps_lawful, replies_plainly, each_begins_locked, each_item_stands_once}
use Rattle.ipcz_world.proofs.Whole.{lawful_worlds_give_the_headline, lawful_worlds_stray_nothing, lawful_worlds_owe, each_quiet_is_direct}
use Rattle.ipcz_world.proofs.Whole.{closed_pairs_are_gone, quiet_has_no_proxy, ends_stand_once, only_flushes_stray}
use Rattle.ipcz_world.proofs.lawful.Rating.{turns_keep_rates}
use Rattle.ipcz_world.proofs.lawful.Turning.{turns_are_bounded}
use Rattle.ipcz_world.proofs.lawful.Unused.{unused_is_quiet}
use Rattle.ipcz_world.proofs.runs.PassingOver.{passing_keeps_lawful, growing_keeps_lawful}
use Rattle.ipcz_world.proofs.runs.Drying.{dry_keeps_lawful, wet_keeps_lawful}

-- it keeps a world lawful
lasting_lawful : (w v : World) (b c : Books) (g h : Routes) (deeds : List Deed) → Lawful w b g → LastingRun w b g deeds v c h → Lawful v c h
lasting_lawful w v b c g h [] law run = subst (λ x. Lawful x c h) (sym run.0)
    (subst (λ x. Lawful w x h) (sym run.1) (subst (λ x. Lawful w b x) (sym run.2) law))
lasting_lawful w v b c g h (Steps step reply ∷ ds) law (u, s, rest) =
    lasting_lawful u v (advance w b step reply) c (routes_after w g step reply) h ds (each_step_keeps_lawful w u b g step reply law s) rest
lasting_lawful w v b c g h (Passes count ∷ ds) law (room, rest) =
    lasting_lawful (passed_over w count) v b c (lose_words g w.claimed count) h ds (passing_keeps_lawful w b g count law room) rest
lasting_lawful w v b c g h (Grows count ∷ ds) law run = lasting_lawful (grown w count) v b c g h ds (growing_keeps_lawful w b g count law) run
lasting_lawful w v b c g h (Dries n serial r ∷ ds) law (may, rest) =
    lasting_lawful (dry_act w (record { node = n; serial = serial }) r) v b c g h ds (dry_keeps_lawful w b g n serial r law may.0 may.1.0 may.1.1) rest
lasting_lawful w v b c g h (Wets k r ∷ ds) law (here, rest) =
    lasting_lawful (wet_act w k r) v b c g h ds (wet_keeps_lawful w b g k r law here) rest

-- its steps are a run of the machine over the books alone
lasting_plain : (w v : World) (b c : Books) (g h : Routes) (deeds : List Deed) → Lawful w b g → LastingRun w b g deeds v c h →
    PlainRun b (steps_in deeds) (replies_in deeds) c
lasting_plain w v b c g h [] law run = run.1
lasting_plain w v b c g h (Steps step reply ∷ ds) law (u, s, rest) = (
  advance w b step reply,
  replies_plainly w u b g step reply law s,
  lasting_plain u v (advance w b step reply) c (routes_after w g step reply) h ds (each_step_keeps_lawful w u b g step reply law s) rest,
)
lasting_plain w v b c g h (Passes count ∷ ds) law (room, rest) =
    lasting_plain (passed_over w count) v b c (lose_words g w.claimed count) h ds (passing_keeps_lawful w b g count law room) rest
lasting_plain w v b c g h (Grows count ∷ ds) law run = lasting_plain (grown w count) v b c g h ds (growing_keeps_lawful w b g count law) run
lasting_plain w v b c g h (Dries n serial r ∷ ds) law (may, rest) =
    lasting_plain (dry_act w (record { node = n; serial = serial }) r) v b c g h ds (dry_keeps_lawful w b g n serial r law may.0 may.1.0 may.1.1) rest
lasting_plain w v b c g h (Wets k r ∷ ds) law (here, rest) =
    lasting_plain (wet_act w k r) v b c g h ds (wet_keeps_lawful w b g k r law here) rest

-- and no reply says that a message other than a Flush didn't fit
lasting_fit : (w v : World) (b c : Books) (g h : Routes) (deeds : List Deed) → Lawful w b g → LastingRun w b g deeds v c h → (i : ℕ)
    (reply : Reply) → slice_get (replies_in deeds) i ≡ Some reply → OnlyFlushesStray reply
lasting_fit w v b c g h [] law run i reply e = cc
lasting_fit w v b c g h (Steps step r ∷ ds) law (u, s, rest) zero reply e =
    subst OnlyFlushesStray (same_Some r reply e) (only_flushes_stray w u b g step r law s)
lasting_fit w v b c g h (Steps step r ∷ ds) law (u, s, rest) (suc i) reply e =
    lasting_fit u v (advance w b step r) c (routes_after w g step r) h ds (each_step_keeps_lawful w u b g step r law s) rest i reply e
lasting_fit w v b c g h (Passes count ∷ ds) law (room, rest) i reply e =
    lasting_fit (passed_over w count) v b c (lose_words g w.claimed count) h ds (passing_keeps_lawful w b g count law room) rest i reply e
lasting_fit w v b c g h (Grows count ∷ ds) law run i reply e =
    lasting_fit (grown w count) v b c g h ds (growing_keeps_lawful w b g count law) run i reply e
lasting_fit w v b c g h (Dries n serial r ∷ ds) law (may, rest) i reply e =
    lasting_fit (dry_act w (record { node = n; serial = serial }) r) v b c g h ds (dry_keeps_lawful w b g n serial r law may.0 may.1.0 may.1.1) rest i
    reply e
lasting_fit w v b c g h (Wets k r ∷ ds) law (here, rest) i reply e =
    lasting_fit (wet_act w k r) v b c g h ds (wet_keeps_lawful w b g k r law here) rest i reply e

pub lasting_runs_keep_the_theorem : LastingRunsKeepTheTheorem
lasting_runs_keep_the_theorem nodes words deeds w b g limits run =
    let start : Lawful (new_world nodes words) no_books (first_routes nodes) = world_starts_lawful nodes words limits in
    let law : Lawful w b g = lasting_lawful (new_world nodes words) w no_books b (first_routes nodes) g deeds start run in
    let line : Headline w b g = lawful_worlds_give_the_headline w b g law in
    let fine = lawful_worlds_stray_nothing w b g law in
    record {
      one_machine = lasting_plain (new_world nodes words) w no_books b (first_routes nodes) g deeds start run;
      in_order = line.got_prefix;
      each_once = each_item_stands_once w b g line;
      dropped_by_sinks = line.dropped_by_sinks;
      held_once = ends_stand_once w b g law;
      links = law.link_law;
      bypasses = law.bypass_law;
      begins_locked = λ step reply v s. each_begins_locked w v b g step reply law s;
      words = law.word_law;
      lengths = fine.0;
      strays = fine.1;
      replies_fit = λ i reply e. lasting_fit (new_world nodes words) w no_books b (first_routes nodes) g deeds start run i reply e;
      owed = lawful_worlds_owe w b g law;
      quiet_is_direct = λ quiet wet. (
        quiet_has_no_proxy w b g law quiet wet,
        closed_pairs_are_gone w b g law quiet wet,
        λ pair s opened open_. each_quiet_is_direct w b g pair s law quiet wet opened open_,
      );
      left_alone = λ turns c v d h rated taken. turns_are_bounded each_step_keeps_lawful
          (turns_keep_rates each_step_keeps_lawful replies_plainly)
          w v b d g h c turns law rated taken;
      unused_is_quiet = unused_is_quiet w b g law;
    }
