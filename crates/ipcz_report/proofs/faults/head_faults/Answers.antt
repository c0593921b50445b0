use Rattle.std.proofs.Common.{◌≡◌, ◌∙◌, ◌==◌, ap, sym, subst, true, false, is_some}
use Rattle.std.specs.Option.{option_map_or}
use Rattle.std.specs.List.{All}
use Rattle.std.proofs.lemmas.List.Elements.{All-nil}
use Rattle.serde_json.specs.Events.{members_len}
use Rattle.serde_json.specs.View.{view}
use Rattle.ipcz_script.proofs.JsonLists.{members_len-members_view}
use Rattle.ipcz_report.specs.declared.wrong.Key.TheVariants as keys
use Rattle.ipcz_report.specs.Faults.{has_members, has_right, known_members, IsHeadFault}
use Rattle.ipcz_report.proofs.Judged.{adds-all, adds-none, keys_right, some_map, three_members}
use Rattle.ipcz_report.proofs.faults.head_faults.Goals as goal

pub judge_count-requires : goal.judge_count-requires
judge_count-requires c =
    ap (λ n. n == c.known_members.result) (c.len.ensures.len ∙ sym (members_len-members_view c.in-Some.members.now.entries))
    ∙ ap (λ o. option_map_or (λ ms. members_len ms == c.known_members.result) o false) c.in-Some.ensures
    ∙ ap (λ n. has_members n (view c.args.value.now)) c.known_members.ensures

pub returns : goal.returns
returns c =
    let d = view c.args.value.now in
    let counted : (c.len.result == c.known_members.result) ≡ has_members (known_members d) d =
    ap (λ n. n == c.known_members.result) (c.len.ensures.len ∙ sym (members_len-members_view c.in-Some.members.now.entries))
    ∙ ap (λ o. option_map_or (λ ms. members_len ms == c.known_members.result) o false) c.in-Some.ensures
    ∙ ap (λ n. has_members n d) c.known_members.ensures in
    let start : All (IsHeadFault d) c.new-faults.result.items = subst (All (IsHeadFault d)) (sym c.new-faults.ensures.items) (All-nil (IsHeadFault d)) in
    let nodes = c.in_ok-judge_member.ensures in
    let words = c.in_ok-judge_member-2.ensures in
    let commands = c.in_ok-judge_member-3.ensures in
    let count = c.in_ok-judge_count.ensures in (
      adds-all d _ _ _ count (adds-all d _ _ _ commands (adds-all d _ _ _ words (adds-all d _ _ _ nodes start))),
      λ none.
          let fourth = adds-none d _ _ _ count none in
          let third = adds-none d _ _ _ commands fourth.1 in
          let second = adds-none d _ _ _ words third.1 in
          let first = adds-none d _ _ _ nodes second.1 in
          let nodes_right : has_right keys.Nodes d ≡ true = ap is_some (sym c.nodes_in.ensures.value) ∙ sym c.is_some.ensures ∙ first.0 in
          let words_right : has_right keys.Words d ≡ true = c.has_words.ensures.right second.0 nodes_right in
          let commands_right : has_right keys.Commands d ≡ true = ap is_some (sym c.values_in.ensures) ∙ some_map _ c.values_in.result
          ∙ sym c.is_some-2.ensures ∙ third.0 in
          let right = keys_right d nodes_right words_right commands_right in
          (three_members d right (sym counted ∙ fourth.0), right),
    )
