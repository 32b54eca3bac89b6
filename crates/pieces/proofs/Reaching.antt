-- What anchors reach: more anchors reach no less, and the same objects are reached wherever they are kept.
use Rattle.std.proofs.Common.{◌≡◌, ℕ, suc, ◌<◌, ◌≤◌, Bool, true, false, List, [], ◌∷◌, length, Some, None, Option, sym, refl, ap, ◌∙◌, subst, inl, inr, ⊎_elim, arith}
use Rattle.std.specs.List.{ContainsAt as Has}
use Rattle.std.proofs.lemmas.List.{get_or_past}
use Rattle.std.proofs.lemmas.Bool.{false≢true, cases_lt}
use Rattle.serialize.specs.Objects.{Node, node_at, link_at, SoundObjects}
use Rattle.walk.specs.Reach.{Leads, Reach, here, step, Reached, Marked}
use Rattle.walk.specs.Computed.{reached, marked_size, reached_size}
use Rattle.walk.proofs.Spread.{reached_on}
use Rattle.walk.proofs.Lengths.{size_none}
use Rattle.walk.proofs.Closure.{reached_long, reached_only, reached_right}
use Rattle.walk.proofs.Growing.{reached_grows_lem}
use Rattle.fields.specs.Arrays.{present}
use Rattle.pieces.specs.Sizes.{Agree}
use Rattle.pieces.proofs.Members.{In, in_from_has, has_from_in}

-- a vertex is present exactly if it is one of the anchors
in_present : (os : List (Option ℕ)) (v : ℕ) → In v (present os) → In (Some v) os
in_present [] v i = i
in_present (Some u ∷ os) v (inl e) = inl (ap Some e)
in_present (Some u ∷ os) v (inr i) = inr (in_present os v i)
in_present (None ∷ os) v i = inr (in_present os v i)

present_in : (os : List (Option ℕ)) (v : ℕ) → In (Some v) os → In v (present os)
present_in [] v i = i
present_in (Some u ∷ os) v (inl e) = let s : u ≡ v = cc in inl s
present_in (Some u ∷ os) v (inr i) = inr (present_in os v i)
present_in (None ∷ os) v (inl e) = let z : ◌≡◌ {A = ℕ} 0 1 = cc in absurd (omega arith)
present_in (None ∷ os) v (inr i) = present_in os v i

-- what is reached, one of the roots reaches
from_root : (nodes : List Node) (roots : List ℕ) (w : ℕ) → Reached nodes roots w → (v : ℕ) × In v roots × Reach nodes v w
from_root nodes [] w r = absurd r
from_root nodes (v ∷ roots) w (inl r) = (v, inl refl, r)
from_root nodes (v ∷ roots) w (inr r) = let p = from_root nodes roots w r in (p.0, inr p.1, p.2)

root_reaches : (nodes : List Node) (roots : List ℕ) (v w : ℕ) → In v roots → Reach nodes v w → Reached nodes roots w
root_reaches nodes [] v w i r = i
root_reaches nodes (u ∷ roots) v w (inl e) r = inl (subst (λ (x : ℕ). Reach nodes x w) (sym e) r)
root_reaches nodes (u ∷ roots) v w (inr i) r = inr (root_reaches nodes roots v w i r)

-- anchors among others reach no more
pub reached_more : (nodes : List Node) (os us : List (Option ℕ)) → ((o : Option ℕ) → Has os o → Has us o) → (w : ℕ) → Reached nodes (present os) w → Reached nodes (present us) w
reached_more nodes os us more w r =
    let p = from_root nodes (present os) w r in
    let o = Some p.0 in
    root_reaches nodes (present us) p.0 w (present_in us p.0 (in_from_has o us (more o (has_from_in o os (in_present os p.0 p.1))))) p.2

-- so their size is no larger
pub fewer_reach : (nodes : List Node) → SoundObjects nodes → (os us : List (Option ℕ)) → ((o : Option ℕ) → Has os o → Has us o) → reached_size nodes (present os) ≤ reached_size nodes (present us)
fewer_reach nodes sound os us more = reached_grows_lem nodes sound (present os) (present us) (reached_more nodes os us more)

-- a vertex that is the same leads to the same
leads_same : (xs ys : List Node) (u v : ℕ) → node_at xs u ≡ node_at ys u → Leads xs u v → Leads ys u v
leads_same xs ys u v e l = subst (λ (x : Node). (i : ℕ) × (i < length x.links) × ((link_at x.links i).child ≡ v)) e l

module _ (nodes nodes' : List Node) (roots : List ℕ) (agree : Agree nodes nodes' roots) where
  there : {v w : ℕ} → Reached nodes roots v → Reach nodes v w → Reach nodes' v w
  there r here = here
  there r (step {u} {v} l q) = step (leads_same nodes nodes' u v (sym (agree.same u r)) l) (there (reached_on nodes roots u v r l) q)

  back : {v w : ℕ} → Reached nodes roots v → Reach nodes' v w → Reach nodes v w
  back r here = here
  back r (step {u} {v} l q) = let m = leads_same nodes' nodes u v (agree.same u r) l in step m (back (reached_on nodes roots u v r m) q)

  pub reached_there : (w : ℕ) → Reached nodes roots w → Reached nodes' roots w
  reached_there w r = let p = from_root nodes roots w r in root_reaches nodes' roots p.0 w p.1 (there (root_reaches nodes roots p.0 p.0 p.1 here) p.2)

  pub reached_back : (w : ℕ) → Reached nodes' roots w → Reached nodes roots w
  reached_back w r = let p = from_root nodes' roots w r in root_reaches nodes roots p.0 w p.1 (back (root_reaches nodes roots p.0 p.0 p.1 here) p.2)

-- a marked vertex has a mark
marked_under : (ms : List Bool) (w : ℕ) → Marked ms w → w < length ms
marked_under ms w m = ⊎_elim (λ l. l) (λ past. absurd (false≢true (sym (get_or_past ms w false past) ∙ m))) (cases_lt w (length ms))

-- vertices that are the same where they are marked are as long together
size_same : (xs ys : List Node) (ms ns : List Bool) → length ms ≡ length xs → length ns ≡ length ys
    → ((w : ℕ) → Marked ms w → Marked ns w) → ((w : ℕ) → Marked ns w → Marked ms w) → ((w : ℕ) → Marked ms w → node_at xs w ≡ node_at ys w) → marked_size xs ms ≡ marked_size ys ns
size_same [] ys ms ns d e to of same = sym (size_none ys ns (λ w m. omega (arith, marked_under ms w (of w m))))
size_same (x ∷ xs) [] ms ns d e to of same = size_none (x ∷ xs) ms (λ w m. omega (arith, marked_under ns w (to w m)))
size_same (x ∷ xs) (y ∷ ys) [] ns d e to of same = absurd (omega arith)
size_same (x ∷ xs) (y ∷ ys) (true ∷ ms) [] d e to of same = absurd (omega arith)
size_same (x ∷ xs) (y ∷ ys) (false ∷ ms) [] d e to of same = absurd (omega arith)
size_same (x ∷ xs) (y ∷ ys) (true ∷ ms) (true ∷ ns) d e to of same =
    omega (arith, ap (λ (n : Node). length n.bytes) (same 0 refl), size_same xs ys ms ns (omega arith) (omega arith) (λ w. to (suc w)) (λ w. of (suc w)) (λ w. same (suc w)))
size_same (x ∷ xs) (y ∷ ys) (true ∷ ms) (false ∷ ns) d e to of same = absurd (false≢true (to 0 refl))
size_same (x ∷ xs) (y ∷ ys) (false ∷ ms) (true ∷ ns) d e to of same = absurd (false≢true (of 0 refl))
size_same (x ∷ xs) (y ∷ ys) (false ∷ ms) (false ∷ ns) d e to of same =
    size_same xs ys ms ns (omega arith) (omega arith) (λ w. to (suc w)) (λ w. of (suc w)) (λ w. same (suc w))

-- objects that keep all that the roots reach keep its size
pub reached_same : (nodes nodes' : List Node) → SoundObjects nodes → SoundObjects nodes' → (roots : List ℕ) → Agree nodes nodes' roots → reached_size nodes' roots ≡ reached_size nodes roots
reached_same nodes nodes' sound sound' roots agree =
    sym (size_same nodes nodes' (reached nodes roots) (reached nodes' roots) (reached_long nodes roots) (reached_long nodes' roots)
    (λ w m. let r = reached_only nodes roots w m in (reached_right nodes' sound' roots w (agree.within w r).1).1 (reached_there nodes nodes' roots agree w r))
    (λ w m. let r = reached_back nodes nodes' roots agree w (reached_only nodes' roots w m) in (reached_right nodes sound roots w (agree.within w r).0).1 r)
    (λ w m. sym (agree.same w (reached_only nodes roots w m))))
