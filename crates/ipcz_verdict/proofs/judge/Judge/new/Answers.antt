use Rattle.std.proofs.Common.{List, ℕ, [], ◌++◌, ◌∙◌, ap, sym, subst}
use Rattle.ipcz_node.specs.FirstPairs.{first_pair_count, first_pairs}
use Rattle.ipcz_script.specs.Labels.{Labels}
use Rattle.ipcz_verdict.specs.declared.portal.Portal.{Portal}
use Rattle.ipcz_verdict.specs.Desks.{HasAllowed, first_books}
use Rattle.ipcz_verdict.proofs.Beginning.{begins}
use Rattle.ipcz_verdict.proofs.judge.Judge.new.Goals as goal

pub returns : goal.returns
returns c =
    let portals = c.in_ok-add_first_pairs.ensures ∙ ap (λ s. s ++ first_books (first_pairs c.args.nodes)) c.new-portals.ensures.items in
    record {
      nothing =
          subst (λ (s : List Portal). HasAllowed (record { nodes = c.args.nodes; profile = c.args.profile; portals = s; pairs = c.from.result; labels = c.in_ok-labels.labels }) c.args.nodes c.args.profile []) (sym portals)
          (subst (λ (n : ℕ). HasAllowed (record { nodes = c.args.nodes; profile = c.args.profile; portals = first_books (first_pairs c.args.nodes); pairs = n; labels = c.in_ok-labels.labels }) c.args.nodes c.args.profile []) (sym (c.from.ensures ∙ c.first_pair_count.ensures))
          (subst (λ (l : Labels). HasAllowed (record { nodes = c.args.nodes; profile = c.args.profile; portals = first_books (first_pairs c.args.nodes); pairs = first_pair_count c.args.nodes; labels = l }) c.args.nodes c.args.profile []) (sym c.in_ok-labels.ensures.labels)
          (begins c.args.nodes c.args.profile c.requires.some)));
    }
