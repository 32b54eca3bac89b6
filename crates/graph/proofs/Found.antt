-- The link at a position, in ascending links.
use Rattle.std.proofs.Common.{◌≡◌, ℕ, zero, suc, ◌<◌, Bool, true, false, cond, eqb, ltb, get_or, List, [], ◌∷◌, length, Some, None, Option, MatchOption, unwrap_or, sym, refl, ap, ◌∙◌, inl, inr, arith}
use Rattle.std.proofs.lemmas.Bool.{eq-eqb, eqb-true, ne_eqb, both_ways, cases_eq, cases_order, ltb-true, ltb-false}
use Rattle.std.proofs.lemmas.List.{get_or_default}
use Rattle.std.proofs.lemmas.List.Sorted.{IsPartitionedBy-ltb, IsPartitionPoint-from_clause}
use Rattle.std.specs.List.Sorted.{IsNonDecreasingBy, IsPartitionedBy, IsPartitionPoint}
use Rattle.std.specs.Fn.{Called, ComputesKey}
use Rattle.std.specs.Bool.{then_some}
use Rattle.std.specs.Option.{option_copied}
use Rattle.std.specs.Slice.{IsItemAt}
use denote.Param.Members.{Mut}
use denote.Ref.{Bor}
use Rattle.serialize.specs.declared.link.Link.{Link}
use Rattle.serialize.specs.declared.link.LinkWidth.{LinkWidth}
use Rattle.serialize.specs.declared.link.LinkWidth.TheVariants.{Two, Three, Four}
use Rattle.serialize.specs.Objects.{no_link, link_at, link_in, Ascends}
use Rattle.serialize.specs.Width.{width_of}

pub link_in-some : (ls : List Link) (i pos : ℕ) → i < length ls → (link_at ls i).position ≡ pos → ((k : ℕ) → k < i → (link_at ls k).position < pos) → link_in ls pos ≡ Some (link_at ls i)
link_in-some [] i pos h t before = absurd (omega arith)
link_in-some (l ∷ ls) zero pos h t before = ap (λ b. cond b (Some l) (link_in ls pos)) (eq-eqb l.position pos t)
link_in-some (l ∷ ls) (suc i) pos h t before =
    ap (λ b. cond b (Some l) (link_in ls pos)) (ne_eqb l.position pos (λ e. omega (arith, before zero (omega arith))))
    ∙ link_in-some ls i pos (omega arith) t (λ k lt. before (suc k) (omega arith))

pub link_in-none : (ls : List Link) (pos : ℕ) → ((k : ℕ) → k < length ls → (link_at ls k).position ≡ pos → ⊥) → link_in ls pos ≡ None
link_in-none [] pos each = refl
link_in-none (l ∷ ls) pos each =
    ap (λ b. cond b (Some l) (link_in ls pos)) (ne_eqb l.position pos (each zero (omega arith))) ∙ link_in-none ls pos (λ k lt. each (suc k) (omega arith))

-- fields that follow one another stand in the order of their positions
pub ascending : (ls : List Link) → Ascends ls → IsNonDecreasingBy (λ (l : Link). l.position) ls
ascending ls up i j d le h =
    let p : Link → ℕ = λ l. l.position in
    elim (cases_eq i j) [
      | inl same ↦ omega (arith, ap (λ (k : ℕ). (get_or ls k d).position) same)
      | inr other ↦ omega (arith, up i j (omega arith) h, ap p (get_or_default ls i d no_link (omega arith)), ap p (get_or_default ls j d no_link h))
    ]

-- the links before the i-th, and no other, begin before a position
abbrev pub Parted : List Link → ℕ → ℕ → Type 0
Parted ls pos i = IsPartitionPoint (λ (l : Link). ltb l.position pos ≡ true) (λ (l : Link). ltb l.position pos ≡ false) ls i

wide : (w : LinkWidth) → 0 < width_of w
wide Two = omega arith
wide Three = omega arith
wide Four = omega arith

-- what `partition_point` leaves, where each call asks whether a link begins before the position
pub parted : {F : Type 0} {g : Mut F (Bor Link × Unit {0}) Bool} {f : F} (ls : List Link) (pos i : ℕ) → Ascends ls
    → ((q : Link → Bool) → ComputesKey g q f → IsPartitionedBy q ls → IsPartitionPoint (λ y. q y ≡ true) (λ y. q y ≡ false) ls i)
    → ((a : Bor Link × Unit {0}) (r : Bool) (f' : F) → Called g f a r f' → (r ≡ ltb a.0.now.position pos) × (f' ≡ f)) → Parted ls pos i
parted ls pos i up clause calls =
    IsPartitionPoint-from_clause (λ (l : Link). ltb l.position pos) ls i clause (IsPartitionedBy-ltb (λ (l : Link). l.position) ls pos (ascending ls up)) calls

pub link_in-parted : (ls : List Link) (pos i : ℕ) → Parted ls pos i → i < length ls → (link_at ls i).position ≡ pos → link_in ls pos ≡ Some (link_at ls i)
link_in-parted ls pos i parted h e = link_in-some ls i pos h e (λ k lt. ltb-true _ _ (parted.0 k no_link (omega arith) lt))

pub link_in-missing : (ls : List Link) (pos i : ℕ) → Ascends ls → Parted ls pos i → (i < length ls → (link_at ls i).position ≡ pos → ⊥) → link_in ls pos ≡ None
link_in-missing ls pos i up parted here =
    link_in-none ls pos (λ k h e.
    elim (cases_order k i) [
      | inl same ↦ here (omega arith) (ap (λ (j : ℕ). (link_at ls j).position) (sym same) ∙ e)
      | inr other ↦
          elim other [
            | inl less ↦ omega (arith, ltb-true _ _ (parted.0 k no_link (omega arith) less))
            | inr more ↦ omega (arith, up i k more h, ltb-false _ _ (parted.1 i no_link (omega arith) (omega arith)), wide (link_at ls i).width)
          ]
    ])

-- what `filter` leaves of the link that `get` finds at that place, where the call asks whether it begins at the position
pub link_in-kept : (Says : Bor Link → Bool → Type 0) (ls : List Link) (pos i : ℕ) (got : Option (Bor Link)) (o r : Option Link) → Ascends ls → Parted ls pos i
    → IsItemAt ls i got → o ≡ option_copied got → MatchOption o (r ≡ None) (λ x. (b : Bool) × ((y : Bor Link) × Says y b × (y.now ≡ x)) × (r ≡ then_some b x))
    → ((y : Bor Link) (b : Bool) → Says y b → b ≡ eqb y.now.position pos) → r ≡ link_in ls pos
link_in-kept Says ls pos i None None r up at item is left calls = left ∙ sym (link_in-missing ls pos i up at (λ h e. absurd (omega (arith, h, item.3))))
link_in-kept Says ls pos i None (Some x) r up at item is left calls = absurd (let z : ◌≡◌ {A = ℕ} 0 1 = cc in omega arith)
link_in-kept Says ls pos i (Some y) None r up at item is left calls = absurd (let z : ◌≡◌ {A = ℕ} 0 1 = cc in omega arith)
link_in-kept Says ls pos i (Some y) (Some x) r up at item is left calls =
    let here : x ≡ link_at ls i = ap (λ (o : Option Link). unwrap_or o x) is ∙ item.3.1 no_link in
    let asks = calls left.1.0 left.0 left.1.1 ∙ ap (λ (z : Link). eqb z.position pos) (left.1.2 ∙ here) in
    left.2 ∙ (ap (then_some left.0) here ∙ tested left.0 asks)
  where
    tested : (b : Bool) → b ≡ eqb (link_at ls i).position pos → then_some b (link_at ls i) ≡ link_in ls pos
    tested true e = sym (link_in-parted ls pos i at item.3.0 (eqb-true _ _ (sym e)))
    tested false e = sym (link_in-missing ls pos i up at (λ _ same. absurd (both_ways _ (sym e) (eq-eqb _ _ same))))
