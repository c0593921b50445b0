-- An unclaimed word isn't lost.
use Rattle.std.specs.Prelude.{◌≡◌, true, false, refl}
use Rattle.ipcz_world.proofs.Vocabulary.{Unclaimed, Lost, is_lost_owner}
use Rattle.ipcz_world.specs.Records.{Owner, Spare, Opening, Fresh, Linked, is_unclaimed}

pub not_lost : (o : Owner) → is_unclaimed o ≡ true → is_lost_owner o ≡ false
unfolding is_unclaimed is_lost_owner
not_lost Unclaimed h = refl
not_lost (Spare k) h = refl
not_lost (Opening n) h = refl
not_lost (Fresh o) h = refl
not_lost Linked h = refl
not_lost Lost h = cc
