-- What the line of a send tells of the ends that moved, as a function promises it.
use Rattle.std.specs.Prelude.{◌≡◌, ◌<◌, ◌^◌, ℕ, List}
use Rattle.std.specs.List.{AllByRecursion}
use Rattle.ipcz_base.specs.declared.end.End.{End}
use Rattle.ipcz_base.specs.declared.link_id.LinkId.{LinkId}
use Rattle.ipcz_script.specs.EventTexts.{sent_text}

-- the numbers of pairs have 64 bits
abbrev pub HavePairs : List End → Type 0
HavePairs ends = AllByRecursion (λ e. e.pair < 2 ^ 64) ends

-- law: two sends of one item that print alike have moved the same ends
abbrev pub SendsTellWhatMoved : Type 0
SendsTellWhatMoved =
    (serial : ℕ) (way : List ℕ) (n : ℕ) (link : LinkId) (moved other : List End) → HavePairs moved → HavePairs other →
    sent_text serial way n link moved ≡ sent_text serial way n link other → moved ≡ other
