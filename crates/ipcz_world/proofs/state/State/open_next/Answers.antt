use Rattle.std.proofs.Common.{◌≡◌, ◌<◌, ◌+◌, true, false, arith, subst, sym, ap, ◌∙◌, refl}
use Rattle.ipcz_world.proofs.code.StatesOfNodes.{world_is}
use Rattle.std.proofs.lemmas.Bool.Decides.{nat_tests}
use Rattle.ipcz_world.proofs.Vocabulary.{End, open_word, World, node_at, set_claimed, serials_refusal, open_node, GivesOrNoMemory, open_with}
use Rattle.ipcz_world.proofs.Vocabulary.{HasLengths, the_view, has_unclaimed_word}
use Rattle.ipcz_world.specs.Coding.{put_word, claim_one}
use Rattle.ipcz_world.specs.declared.step.Reply.TheVariants.{Opened}
use Rattle.ipcz_world.proofs.code.Calling.{open-done, open-refused, open-world, next-word, no-word}
use Rattle.ipcz_world.proofs.state.State.open_next.Goals as goal
use Rattle.ipcz_world.proofs.code.Rooming.{given_with_room, roomy_is}
use Rattle.std.proofs.Common.{true≢false}
use Rattle.ipcz_node.specs.RoomyNodes.{CanOpen}
use Rattle.ipcz_world.specs.Steps.{opened_reply}

pub returns-then-not-has_unclaimed-clause-opened : goal.returns-then-not-has_unclaimed-clause-opened
returns-then-not-has_unclaimed-clause-opened c =
    let none : c.has_unclaimed.result ≡ false = grind arith in
    rw (← world_is c.self.view_is) (no-word (the_view c.self.inside).world c.args.n (sym c.has_unclaimed.ensures ∙ none))

pub returns-in-Err-clause-opened : goal.returns-in-Err-clause-opened
unfolding node_at
returns-in-Err-clause-opened c =
    let w : World = (the_view c.self.inside).world in
    let some : c.has_unclaimed.result ≡ true = grind arith in
    let has = subst HasLengths (sym (world_is c.self.view_is)) c.requires.regular.lengths in
    let here = subst (λ (w : World). c.args.n < w.count) (sym (world_is c.self.view_is)) c.requires.node in
    rw (← world_is c.self.view_is, next-word w c.args.n (sym c.has_unclaimed.ensures ∙ some))
    (open-refused _ _ c.args.n _ c.node_mut-node.result.now.node c.open_prepare.new.self.node c.in-Err.why _ has here
    c.node_mut-node.ensures.value c.in-Err.ensures.why c.in-Err.ensures.node refl)

pub returns-clause-opened : goal.returns-clause-opened
unfolding node_at set_claimed
returns-clause-opened c =
    let w : World = (the_view c.self.inside).world in
    let some : c.has_unclaimed.result ≡ true = grind arith in
    let next = next-word w c.args.n (sym c.has_unclaimed.ensures ∙ some) in
    let has = subst HasLengths (sym (world_is c.self.view_is)) c.requires.regular.lengths in
    let low : has_unclaimed_word w ≡ true = sym c.has_unclaimed.ensures ∙ some in
    let within : w.claimed < w.size = grind (arith, low, nat_tests) in
    let opened = c.open.ensures ∙ ap (λ t. put_word t c.claim-word.result open_word) c.claim-word.ensures.table ∙
    ap (λ i. put_word (claim_one c.self.inside.words) i open_word) c.claim-word.ensures.word in
    let made = c.open_commit.ensures.node ∙ ap (open_node c.open_prepare.new.self.node) c.claim-word.ensures.word in
    let reply = ap (λ (p : End × End). Opened p.0 p.1) c.open_commit.ensures.ends ∙
    ap opened_reply c.claim-word.ensures.word in
    rw (← world_is c.self.view_is, next)
    (subst (λ v. GivesOrNoMemory w (open_with w (set_claimed w (w.claimed + 1)) c.args.n w.claimed)
    (Opened c.open_commit.result.0 c.open_commit.result.1) v)
    (sym (open-world w c.args.n w.claimed (w.claimed + 1) c.open_commit.new.self.node c.open.new.self has within opened))
    (open-done w (set_claimed w (w.claimed + 1)) c.args.n w.claimed c.open_prepare.new.self.node c.open_commit.new.self.node _
    (c.in_default.ensures.node ∙ c.node_mut-node.ensures.value)
    (ap serials_refusal c.in_default.ensures.node ∙ c.in_default.ensures.allowed) made reply))

pub returns-in-Err-clause-full : goal.returns-in-Err-clause-full
unfolding node_at
returns-in-Err-clause-full c = λ room.
    absurd (true≢false (sym (c.in-Err.ensures.full (subst CanOpen
    (roomy_is c.args.n c.node_mut-node.result.now c.self.view_is c.node_mut-node.ensures.value c.node_mut-node.ensures.room) room))))

pub returns-clause-full : goal.returns-clause-full
returns-clause-full c = λ room. given_with_room (returns-clause-opened c) (λ plain is. cc)

pub returns-then-not-has_unclaimed-clause-full : goal.returns-then-not-has_unclaimed-clause-full
returns-then-not-has_unclaimed-clause-full c = λ room.
    given_with_room (returns-then-not-has_unclaimed-clause-opened c) (λ plain is. cc)
