-- At which portal a call is.
use Rattle.std.proofs.Common.{◌≡◌, ◌≢◌, ℕ, List, Option, Some, None, subst, rules}
use Rattle.std.specs.List.{All}
use Rattle.ipcz_lines.specs.declared.line.Line.{Line}
use Rattle.ipcz_messages.specs.declared.named.NamedPortal.{NamedPortal}
use Rattle.ipcz_messages.specs.Named.{IsCallAt, IsPlaceOfName}
use Rattle.ipcz_picture.specs.Scenes.{IsPlaceOfCall}

one_call : (name other : List ℕ) (line : Line) → IsCallAt name line → IsCallAt other line → name ≡ other
one_call name other line h k = search rules

pub called_at : (name : List ℕ) (named : List NamedPortal) (line : Line) (place : Option ℕ) → IsCallAt name line → IsPlaceOfName name named place →
    IsPlaceOfCall named line place
called_at name named line (Some i) call h = (name, call, h)
called_at name named line None call h = λ other k. subst (λ n. All (λ p. p.name.now ≢ n) named) (one_call name other line call k) h
