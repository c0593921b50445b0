-- Which end each name of a script is bound to, and which name each end has.
use Rattle.std.specs.Prelude.{ℕ, List, map, String, string_bytes}
use Rattle.std.specs.Global.{Global}
use Rattle.std.specs.Ordering.{nat_cmp}
use Rattle.std.specs.Cmp.Lexicographic.{slice_cmp}
use Rattle.std.specs.FinMap as finite
use Rattle.ipcz_base.specs.declared.end.End.{End}
use Rattle.ipcz_base.specs.Orders.{end_cmp}

-- names, by their bytes, and the ends that they are bound to
abbrev pub Bindings : Type 0
Bindings = finite.FinMap (slice_cmp nat_cmp) End

-- the bindings that the entries of a tree are
abbrev pub bindings_of : List (String Global × End) → Bindings
bindings_of entries = finite.from_entries (map (λ e. (string_bytes e.0, e.1)) entries)

-- ends, and the names that they have
abbrev pub Titles : Type 0
Titles = finite.FinMap end_cmp (List ℕ)

-- the titles that the entries of a tree are
abbrev pub titles_of : List (End × List ℕ) → Titles
titles_of entries = finite.from_entries entries
