-- What a slot keeps of a link end.
use Rattle.std.specs.Prelude.{◌≡◌, ℕ, refl, Option, Some, None}
use Rattle.ipcz_base.specs.declared.link_end.LinkEnd.{LinkEnd}
use Rattle.ipcz_base.specs.declared.link_id.LinkId.{LinkId}
use Rattle.ipcz_base.specs.declared.link_id.LinkId.TheVariants as links
use Rattle.ipcz_base.specs.declared.side.Side.{Side}
use Rattle.ipcz_edge.specs.declared.link_slot.Kept.{Kept}
use Rattle.ipcz_edge.specs.declared.link_slot.Kept.TheVariants.{Nothing, Central, Peripheral}

-- the link end that is kept
unfoldable pub end_kept : Kept → Option LinkEnd
end_kept Nothing = None
end_kept (Central side other word) = Some (record { link = links.Central word; side = side; other = other })
end_kept (Peripheral side other node serial) = Some (record { link = links.Peripheral node serial; side = side; other = other })

-- how the end of a link is kept
unfoldable pub kept_of : Side → ℕ → LinkId → Kept
kept_of side other (links.Central word) = Central side other word
kept_of side other (links.Peripheral node serial) = Peripheral side other node serial

-- how a link end is kept
unfoldable pub kept_end : Option LinkEnd → Kept
kept_end None = Nothing
kept_end (Some e) = kept_of e.side e.other e.link

-- what is kept is got back, and so is all that is made of it
pub got_back : {R : Type 0} (f : Kept → R) (k : Kept) → f (kept_end (end_kept k)) ≡ f k
unfolding end_kept kept_end kept_of
got_back f Nothing = refl
got_back f (Central side other word) = refl
got_back f (Peripheral side other node serial) = refl
