use Rattle.std.proofs.Common.{◌≡◌, ◌+◌, suc, None, arith, min, replicate, subst, take}
use Rattle.ipcz_picture.specs.Words.{SeesAll}
use Rattle.ipcz_picture.proofs.Seeing.{sees_next}
use Rattle.ipcz_picture.proofs.known_words.known_before.Goals as goal

pub loop-read-preserved : goal.loop-read-preserved
loop-read-preserved c =
    let next : suc c.loop-read.read-index ≡ c.loop-read.read-index + 1 = omega arith in
    subst (λ n. SeesAll (take n c.args.lines.now) (replicate (min c.args.words 4096) None) c.see.new.self.values.items) next
    (sees_next c.args.lines.now c.loop-read.read-index _ _ _ _ (omega arith) c.loop-read.invariant c.see.ensures)
