-- What is written of a run is its text.
use Rattle.std.proofs.Common.{◌≡◌, ◌∙◌, ℕ, List, [], ◌∷◌, ◌++◌, Ok, ap, subst, append_assoc}
use Rattle.ipcz_script.specs.ReadBack.{text_of}
use Rattle.ipcz_script.specs.Sessions.{Session, new_session}
use Rattle.ipcz_events.specs.declared.ending.Ending.{Ending}
use Rattle.ipcz_events.specs.declared.order.Order.{Order}
use Rattle.ipcz_events.specs.declared.ran.Ran.{Ran}
use Rattle.ipcz_events.specs.declared.ran.Ran.TheVariants as ran
use Rattle.ipcz_events.specs.declared.run.Run.{Run}
use Rattle.ipcz_events.specs.declared.schedule.Schedule.{Schedule}
use Rattle.ipcz_events.specs.RunOutputs.{IsEndedText, IsRunOutput, IsRunText, ending_text}
use Rattle.ipcz_events.specs.Runs.{AreObeyed, EndsAs}
use Rattle.ipcz_events.specs.Schedules.{IsSchedule}
use Rattle.ipcz_events.specs.Written.{IsTextOf, header_data}

abbrev begun : Session → ℕ → Run
begun session seed = record { session = session; state = seed }

-- the first line is added to nothing
abbrev pub IsHeaded : Schedule → ℕ → List ℕ → List ℕ → Type 0
IsHeaded schedule seed old new = (line : List ℕ) × IsTextOf line (header_data schedule.nodes schedule.words seed) × (new ≡ old ++ (line ++ 10 ∷ []))

pub run_text_so : (schedule : Schedule) (seed : ℕ) (ending : Ending) (none headed told whole : List ℕ) (session : Session) (os : List Order) → none ≡ [] →
    IsHeaded schedule seed none headed → session ≡ new_session schedule.nodes schedule.words → os ≡ schedule.orders →
    AreObeyed schedule.nodes (begun session seed) os ending headed told → whole ≡ told ++ ending_text ending → IsRunText schedule seed ending whole
run_text_so schedule seed ending none headed told whole session os empty head start all obeyed end = record {
  log = obeyed.0;
  header = head.0;
  lines = obeyed.2.0;
  run = subst (λ s. EndsAs schedule.nodes (begun s seed) schedule.orders ending obeyed.0) start
      (subst (λ l. EndsAs schedule.nodes (begun session seed) l ending obeyed.0) all obeyed.1);
  first = head.1;
  written = obeyed.2.1;
  whole =
      end
      ∙ ap (λ t. t ++ ending_text ending)
      (obeyed.2.2 ∙ ap (λ t. t ++ text_of obeyed.2.0) (head.2 ∙ ap (λ t. t ++ (head.0 ++ 10 ∷ [])) empty) ∙ append_assoc head.0 (10 ∷ []) (text_of obeyed.2.0));
}

pub ended_output : (seed : ℕ) (input : List ℕ) (schedule : Schedule) (came : Ran) (text : List ℕ) → IsSchedule input (Ok schedule) → IsEndedText schedule seed came text →
    IsRunOutput seed input came text
ended_output seed input schedule (ran.Ended ending) text is ended = (schedule, is, ended)
ended_output seed input schedule (ran.Refused why) text is ended = absurd ended
