use Rattle.std.proofs.Common.{◌≡◌, ◌∙◌, ◌==◌, ap, length, rules, sym}
use Rattle.ipcz_device.proofs.KnownBytes.{consumes_two}
use Rattle.ipcz_log.specs.Pieces.{Pieces}
use Rattle.ipcz_log.proofs.Cutting.{reads_last, reads_line, reads_more}
use Rattle.ipcz_log.proofs.lines.Lines.next.Goals as goal

pub returns-then-self-clause-line : goal.returns-then-self-clause-line
returns-then-self-clause-line g c = λ end.
    let empty : c.is_empty.result ≡ (length c.go_on.new.self.line == 0) = search rules in
    reads_last (g.R.Read.remaining c.args.reader.now.inner) (g.R.Read.remaining c.reading.reader.inner) c.args.self.now c.reading.self c.go_on.new.self
    c.is_empty.result end c.reading.invariant.1 c.in_ok-go_on.ensures.line c.in_ok-go_on.ensures.unread c.in_ok-go_on.ensures.ended
    (sym c.in_ok-go_on.ensures.whole ∙ c.if-not-branch.true) (sym (ap (λ (x : Pieces). x.ended) c.self-in-reading.view_is) ∙ c.if-self.true) empty

pub reading-preserved : goal.reading-preserved
reading-preserved g c = (
  c.in_ok-read_piece.ensures.ok,
  (reads_more (g.R.Read.remaining c.args.reader.now.inner) (g.R.Read.remaining c.reading.reader.inner) (g.R.Read.remaining c.read_piece.new.reader.inner) c.args.self.now c.reading.self c.go_on.new.self
      c.read_piece.new.self c.reading.invariant.1 c.in_ok-go_on.ensures.line c.in_ok-go_on.ensures.unread c.in_ok-go_on.ensures.ended
      (sym c.in_ok-go_on.ensures.whole ∙ c.if-not-branch.true) (sym (ap (λ (x : Pieces). x.ended) c.self-in-reading.view_is) ∙ c.if-self.false) c.in_ok-go_on.ensures.few c.read_piece.ensures.line c.in_ok-read_piece.ensures.piece).0,
)

pub returns-in_err-read_piece-clause-taken : goal.returns-in_err-read_piece-clause-taken
returns-in_err-read_piece-clause-taken g c =
    let so_far = c.reading.invariant.1 in
    let more = c.in_err-read_piece.ensures.taken in
    (_, consumes_two (g.R.Read.remaining c.args.reader.now.inner) (g.R.Read.remaining c.reading.reader.inner) (g.R.Read.remaining c.read_piece.new.reader.inner) so_far.read more.0 so_far.taken more.1)

pub returns-clause-line : goal.returns-clause-line
returns-clause-line g c = λ end. reads_line (g.R.Read.remaining c.args.reader.now.inner) (g.R.Read.remaining c.reading.reader.inner) c.args.self.now c.reading.self c.go_on.new.self end c.reading.invariant.1
    c.in_ok-go_on.ensures.line c.in_ok-go_on.ensures.unread c.in_ok-go_on.ensures.ended (sym c.in_ok-go_on.ensures.whole ∙ c.if-not-branch.false)
