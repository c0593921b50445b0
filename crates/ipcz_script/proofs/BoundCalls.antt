-- What the names of a call that succeeds are bound to.
use Rattle.std.proofs.Common.{◌≡◌, ◌∙◌, ◌++◌, sym, refl, subst, ℕ, zero, suc, Bool, true, false, cond, List, [], ◌∷◌, map, Option}
use Rattle.std.proofs.Common.{Some, None}
use Rattle.std.specs.Prelude.{option_and_then, option_map, slice_get, unwrap_or}
use Rattle.std.specs.List.{AllByRecursion}
use Rattle.std.specs.FinMap.{get}
use Rattle.std.proofs.lemmas.Option.{same_Some}
use Rattle.ipcz_base.specs.declared.end.End.{End}
use Rattle.ipcz_base.specs.declared.parcel.Parcel as parcels
use Rattle.ipcz_world.specs.Holding.{holder_of}
use Rattle.ipcz_script.specs.declared.command.Command.{Command}
use Rattle.ipcz_script.specs.declared.command.Command.TheVariants as commands
use Rattle.ipcz_script.specs.declared.said.Said.{Said}
use Rattle.ipcz_script.specs.declared.said.Said.TheVariants as said
use Rattle.ipcz_script.specs.Lines.{title_of}
use Rattle.ipcz_script.specs.Sessions.{Session, Runs, ends_of, if_known, replied_get, replied_put}
use Rattle.ipcz_script.specs.ScriptBooks.{is_bound, parcel_of, put_said}
use Rattle.ipcz_script.proofs.PutData.{held-all, known-all}
use Rattle.ipcz_script.proofs.CallAnswers.{put-answers}
use Rattle.ipcz_script.proofs.BoundNames.{AreTold, IsBound, Stays}

-- a put that is accepted is at a name that is bound, as are those that it attaches
pub record PutIsBound (s : Session) (at : List ℕ) (attached : List (List ℕ)) : Type 0 where
  pub end : End
  pub bound : IsBound s at end
  pub ends : List End
  pub known : ends_of s.names attached ≡ Some ends

pub put-bound : (s : Session) (at text : List ℕ) (attached : List (List ℕ)) (k : ℕ) (t : Session) →
    Runs s (commands.Put at text attached) (said.Put k) t → PutIsBound s at attached
unfolding if_known
put-bound s at text attached k t run = go (get s.names at) refl
  where
    go : (o : Option End) → get s.names at ≡ o → PutIsBound s at attached
    go None bound =
        let never : said.Put k ≡ said.UnknownName = run.0 ∙ unbound in cc
      where
        unbound : (replied_put s at text attached).said ≡ said.UnknownName
        unbound = rw bound refl
    go (Some e) bound = with_ends (ends_of s.names attached) refl
      where
        with_ends : (o : Option (List End)) → ends_of s.names attached ≡ o → PutIsBound s at attached
        with_ends None known =
            let never : said.Put k ≡ said.UnknownName = run.0 ∙ unknown in cc
          where
            unknown : (replied_put s at text attached).said ≡ said.UnknownName
            unknown = rw bound (rw known refl)
        with_ends (Some ends) known = record { end = e; bound = bound; ends = ends; known = known }

-- so is the name of a get that got a parcel
pub get-bound : (s : Session) (at : List ℕ) (k : ℕ) (p : parcels.Parcel) (t : Session) → Runs s (commands.Get at) (said.Got k p) t →
    (e : End) × IsBound s at e
unfolding if_known
get-bound s at k p t run = go (get s.names at) refl
  where
    go : (o : Option End) → get s.names at ≡ o → (e : End) × IsBound s at e
    go None bound =
        let never : said.Got k p ≡ said.UnknownName = run.0 ∙ unbound in cc
      where
        unbound : (replied_get s at).said ≡ said.UnknownName
        unbound = rw bound refl
    go (Some e) bound = (e, bound)

-- what a put may be answered
abbrev pub IsPutAnswer : Said → Type 0
IsPutAnswer (said.Put k) = Unit {0}
IsPutAnswer said.UnknownName = Unit {0}
IsPutAnswer said.Away = Unit {0}
IsPutAnswer (said.Refused why) = Unit {0}
IsPutAnswer other = ⊥

pub put-answered : (s : Session) (at text : List ℕ) (attached : List (List ℕ)) (answer : Said) (t : Session) →
    Runs s (commands.Put at text attached) answer t → IsPutAnswer answer
put-answered s at text attached answer t is =
    subst IsPutAnswer (sym is.0) (known-all IsPutAnswer s (get s.names at) _ tt
    (λ end. known-all IsPutAnswer s (ends_of s.names attached) _ tt
    (λ ends. held-all IsPutAnswer s (holder_of s.world end) _ tt
    (λ n. put-answers IsPutAnswer (λ why. tt) (λ k. tt) s.world n end text ends))))

-- ---- ends that have names

abbrev pub HasName : Session → End → Type 0
HasName s e = (name : List ℕ) × IsBound s name e

abbrev pub HaveNames : Session → List End → Type 0
HaveNames s es = AllByRecursion (HasName s) es

-- the ends of these parcels have names
abbrev pub AreOfNamed : Session → List parcels.Parcel → Type 0
AreOfNamed s ps = AllByRecursion (λ p. HaveNames s p.ends) ps

ends-stay : (s t : Session) (es : List End) → Stays s t → HaveNames s es → HaveNames t es
ends-stay s t [] stays h = tt
ends-stay s t (e ∷ es) stays h = ((h.0.0, stays h.0.0 e h.0.1), ends-stay s t es stays h.1)

pub parcels-stay : (s t : Session) (ps : List parcels.Parcel) → Stays s t → AreOfNamed s ps → AreOfNamed t ps
parcels-stay s t [] stays h = tt
parcels-stay s t (p ∷ ps) stays h = (ends-stay s t p.ends stays h.0, parcels-stay s t ps stays h.1)

pub parcels-append : (s : Session) (ps qs : List parcels.Parcel) → AreOfNamed s ps → AreOfNamed s qs → AreOfNamed s (ps ++ qs)
parcels-append s [] qs h k = k
parcels-append s (p ∷ ps) qs h k = (h.0, parcels-append s ps qs h.1 k)

pub next-named : (s : Session) (ps : List parcels.Parcel) (n : ℕ) (p : parcels.Parcel) → AreOfNamed s ps → slice_get ps n ≡ Some p →
    HaveNames s p.ends
next-named s [] n p h e = cc
next-named s (q ∷ ps) zero p h e = subst (λ x. HaveNames s x.ends) (same_Some q p e) h.0
next-named s (q ∷ ps) (suc n) p h e = next-named s ps n p h.1 e

-- the ends that names are bound to have these names, and print as them from then on
pub record ArePortals (s t : Session) (attached : List (List ℕ)) (ends : List End) : Type 0 where
  pub named : HaveNames s ends
  pub told : map (title_of t.titles) ends ≡ attached

pub portals : (s t : Session) (attached : List (List ℕ)) (ends : List End) → AreTold t → Stays s t →
    ends_of s.names attached ≡ Some ends → ArePortals s t attached ends
portals s t [] ends told stays e =
    subst (ArePortals s t []) (same_Some [] ends e) (record { named = tt; told = refl })
portals s t (n ∷ ns) ends told stays e = go (get s.names n) refl (ends_of s.names ns) refl e
    (λ ds known. portals s t ns ds told stays known)
  where
    go : (o : Option End) → get s.names n ≡ o → (rest : Option (List End)) → ends_of s.names ns ≡ rest →
        option_and_then (λ y. option_map (λ ys. y ∷ ys) rest) o ≡ Some ends →
        ((ds : List End) → ends_of s.names ns ≡ Some ds → ArePortals s t ns ds) → ArePortals s t (n ∷ ns) ends
    go None bound rest known same each = let never : None ≡ Some ends = same in cc
    go (Some d) bound None known same each = let never : None ≡ Some ends = same in cc
    go (Some d) bound (Some ds) known same each =
        let more = each ds known in
        let one = told n d (stays n d bound) in
        subst (ArePortals s t (n ∷ ns)) (same_Some (d ∷ ds) ends same)
        (record { named = ((n, bound), more.named); told = λ i. one i ∷ more.told i })

-- the ends of a parcel that is put have names
pub put-named : (s : Session) (c : Command) (answer : Said) (t : Session) (e : End) → AreTold s → Runs s c answer t →
    AreOfNamed s (put_said s.names c answer e)
unfolding put_said
put-named s (commands.Put at text attached) (said.Put k) t e told run = go (is_bound s.names at e)
  where
    there : PutIsBound s at attached
    there = put-bound s at text attached k t run

    go : (b : Bool) → AreOfNamed s (cond b (parcel_of s.names text attached ∷ []) [])
    go true = (
      subst (λ o. HaveNames s (unwrap_or o [])) (sym there.known) (portals s s attached there.ends told (λ name d h. h) there.known).named,
      tt,
    )
    go false = tt
put-named s c answer t e told run = tt
