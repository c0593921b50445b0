-- Roles, and what their edges and links tell.
pub use Rattle.ipcz_world.specs.Roles.{Across, Begun, BegunRecords, Fits, FitsOut, HasRole, Inward, IsOn, On, Outward, Role, Roles, Unbegun, edge_at, end_of, has_inner, inner_edge, inward_of, link_of, lone, meant, old_edge, outward_of, side_of, standing_edge, trim, until}
use Rattle.std.specs.Prelude.{◌≡◌, ◌≤◌, ℕ, true, cond, Option, Some, None, refl}
use Rattle.ipcz_world.proofs.Vocabulary.{Side, A, B, LinkId, Central, Peripheral, LinkEnd, same_side, Edge, Router}
use Rattle.ipcz_world.proofs.Vocabulary.{World, Key, Records, bypass_of}
use Rattle.ipcz_world.proofs.Vocabulary.{proxy_side, inner_of, IsRecorded, is_begun, BypassRecords, Stands}
use Rattle.std.proofs.lemmas.Option.{same_Some}
use Rattle.ipcz_world.proofs.frames.RecordRules.{bypass_of-inner}
use Rattle.ipcz_world.proofs.frames.BegunLengths.{bypass_of-central_is}
use Rattle.std.proofs.Common.{ap, ◌∙◌, sym, arith}

-- an edge with a decaying link, and one without
pub trim-decays : (x : Edge) (p : Option LinkEnd) (d : LinkEnd) (to from : Option ℕ) → x.primary ≡ p → x.decaying ≡ Some d → x.length_to ≡ to →
    x.length_from ≡ from → trim x ≡ edge_at p d to from
trim-decays x p d to from a b c e = λ t. record {
  primary = a t;
  decaying = b t;
  length_to = (ap (λ n. meant n x.length_to) b ∙ c) t;
  length_from = (ap (λ n. meant n x.length_from) b ∙ e) t;
}

pub trim-lone : (x : Edge) (p : Option LinkEnd) → x.primary ≡ p → x.decaying ≡ None → trim x ≡ lone p
trim-lone x p a b = λ t. record { primary = a t; decaying = b t; length_to = meant (b t) x.length_to; length_from = meant (b t) x.length_from }

pub until-same : (g h : Records) (o : ℕ) (l : LinkId) (s : Side) → proxy_side h o ≡ proxy_side g o → until h o l s ≡ until g o l s
until-same g h o (Central i) s e = ap (λ t. cond (same_side s t) 0 2) e
until-same g h o (Peripheral n x) A e = refl
until-same g h o (Peripheral n x) B e = refl

pub until-most : (g : Records) (o : ℕ) (l : LinkId) (s : Side) → until g o l s ≤ 2
until-most g o (Central i) s = grind arith
until-most g o (Peripheral n x) A = omega arith
until-most g o (Peripheral n x) B = omega arith

-- a link end that is as its record says is the end of its link at its side
pub end-is : {w : World} {g : Records} {k : Key} {r : Router} {e : LinkEnd} → IsRecorded w g k r e → e ≡ end_of g e.link e.side
end-is {e = e} is = λ t. record { link = e.link; side = e.side; other = is.other t }

-- what an edge with a decaying link tells
pub record Decaying (x : Edge) (p : Option LinkEnd) (d : LinkEnd) (to from : Option ℕ) : Type 0 where
  pub primary : x.primary ≡ p
  pub decaying : x.decaying ≡ Some d
  pub length_to : x.length_to ≡ to
  pub length_from : x.length_from ≡ from

pub trim-tells : (x : Edge) (p : Option LinkEnd) (d : LinkEnd) (to from : Option ℕ) → trim x ≡ edge_at p d to from → Decaying x p d to from
trim-tells x p d to from e = let f : x.decaying ≡ Some d = ap (λ t. t.decaying) e in record {
  primary = ap (λ t. t.primary) e;
  decaying = f;
  length_to = ap (λ n. meant n x.length_to) (sym f) ∙ ap (λ t. t.length_to) e;
  length_from = ap (λ n. meant n x.length_from) (sym f) ∙ ap (λ t. t.length_from) e;
}

-- a link inward is that of one bypass
pub inner-one : {w : World} {g : Records} → BypassRecords w g → (j o : ℕ) → is_begun (g.bypass j) ≡ true → is_begun (g.bypass o) ≡ true →
    inner_of g j ≡ inner_of g o → j ≡ o
inner-one {g = g} law j o a b e = same_Some j o (sym ((law j).inner_by a) ∙ sym (bypass_of-inner g (g.bypass j).inner) ∙ ap (bypass_of g) e ∙
    bypass_of-inner g (g.bypass o).inner ∙ (law o).inner_by b)

-- who takes a link away has begun
pub begun-by : {w : World} {g : Records} → Stands w g → (l : LinkId) (o : ℕ) → bypass_of g l ≡ Some o → is_begun (g.bypass o) ≡ true
begun-by {g = g} stands (Central i) o e = let t = bypass_of-central_is g i o e in rw t.0 t.1
begun-by {g = g} stands (Peripheral n x) o e = let p : Key = record { node = n; serial = x } in
    stands.by_begun p o (sym (bypass_of-inner g p) ∙ e)

-- who has begun is the proxy still, if no bypass has another
pub begun-kept : {g h : Records} → ((o : ℕ) → (h.bypass o).proxy ≡ (g.bypass o).proxy) →
    ((o : ℕ) → is_begun (h.bypass o) ≡ is_begun (g.bypass o)) → ((k : Key) → h.begun k ≡ g.begun k) → BegunRecords g →
    BegunRecords h
begun-kept {h = h} proxy begun by law = record {
  begun_proxy = λ k o b. proxy o ∙ law.begun_proxy k o (sym (by k) ∙ b);
  begun_stage = λ k o b. begun o ∙ law.begun_stage k o (sym (by k) ∙ b);
  proxy_begun = λ o b. ap h.begun (proxy o) ∙ by _ ∙ law.proxy_begun o (sym (begun o) ∙ b);
}
