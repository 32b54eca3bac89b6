-- A field in the words of the format.
use Rattle.std.proofs.Common.{◌≡◌, ℕ, zero, suc, ◌+◌, ◌*◌, ◌<◌, ◌≤◌, true, false, cond, eqb, leb, List, [], ◌∷◌, length, get_or, drop, Some, None, Ok, Err, sym, refl, ap, ◌∙◌, ⊎_elim, add-zero, arith}
use Rattle.std.proofs.lemmas.List.{length-drop, get_or-drop}
use Rattle.std.proofs.lemmas.Bool.{le-leb, lt-leb, leb-true, leb-false, and_parts, and_from, and_right, eqb-true, cases_Bool, cases_lt, true≢false}
use Rattle.serialize.specs.declared.link.Link.{Link}
use Rattle.serialize.specs.declared.link.LinkWidth.{LinkWidth}
use Rattle.serialize.specs.declared.link.LinkWidth.TheVariants.{Two, Three, Four}
use Rattle.serialize.specs.Objects.{no_link, word_at}
use Rattle.serialize.specs.Width.{width_of}
use Rattle.fields.specs.Fields.{free, bare, front, offset, nullable, allowed, give, then, from, seek}
use Rattle.fields.specs.Laws.{WordMeans, OffsetMeans, NullableMeans}
use Rattle.fields.proofs.Apart.{apart, ascending}
use Rattle.fields.proofs.Steps.{word_is, offset_is}
use Rattle.fields.proofs.Seeks.{took, left_out, least, word_ok, offset_ok, allowed_ok, then_ok, either, ok_pair}

-- from p on, the first link is the least
none_sooner : (p q e : ℕ) (ls : List Link) (i : ℕ) → apart q ls ≡ true → i < length ls → p ≤ (get_or ls i no_link).position → free e (from p ls) ≡ true → e ≤ (get_or ls i no_link).position
none_sooner p q e [] i a h b f = absurd (omega arith)
none_sooner p q e (l ∷ ls) zero a h b f = leb-true e l.position (sym (ap (free e) (took p l ls b)) ∙ f)
none_sooner p q e (l ∷ ls) (suc i) a h b f =
    let t = and_parts (leb q l.position) (apart (l.position + width_of l.width) ls) a in
    ⊎_elim
    (λ (u : l.position < p). none_sooner p (l.position + width_of l.width) e ls i t.1 (omega arith) b (sym (ap (free e) (left_out p l ls u)) ∙ f))
    (λ (u : p ≤ l.position).
    let first = leb-true e l.position (sym (ap (free e) (took p l ls u)) ∙ f) in
    let next = least (l.position + width_of l.width) ls i t.1 (omega arith) in
    omega arith)
    (cases_lt l.position p)

-- where a link from p on starts before e, one starts between them
some_sooner : (p e : ℕ) (ls : List Link) → free e (from p ls) ≡ false → (i : ℕ) × (i < length ls) × (p ≤ (get_or ls i no_link).position) × ((get_or ls i no_link).position < e)
some_sooner p e [] f = absurd (true≢false f)
some_sooner p e (l ∷ ls) f =
    ⊎_elim
    (λ (u : l.position < p). let r = some_sooner p e ls (sym (ap (free e) (left_out p l ls u)) ∙ f) in (suc r.0, omega (arith, r.1), r.2, r.3))
    (λ (u : p ≤ l.position). (0, omega arith, u, leb-false e l.position (sym (ap (free e) (took p l ls u)) ∙ f)))
    (cases_lt l.position p)

-- the word at p
front_at : (bs : List ℕ) (p : ℕ) → front (drop p bs) ≡ word_at bs p
front_at bs p = let a = get_or-drop p bs 0 0 ∙ ap (λ n. get_or bs n 0) (add-zero p) in let b = get_or-drop p bs 1 0 in (λ i. a i * 256 + b i)

pub word_means : WordMeans
word_means count x sound p w fits =
    let bs = x.bytes in
    let ls = x.links in (
      λ g.
          let o = word_ok (seek p bs ls) w g.0 g.1 in
          let long : p + 2 ≤ length bs = omega (arith, length-drop p bs) in
          let bare' : bare 2 (seek p bs ls) ≡ true = and_from (leb 2 (length (drop p bs))) (free (p + 2) (from p ls)) (le-leb 2 (length (drop p bs)) o.0) o.1 in
          (long, (λ s. omega (arith, none_sooner p 0 (p + 2) ls s.0 (ascending ls sound.0) s.1 s.2 o.1, s.3)), (ok_pair (sym g.1 ∙ word_is (seek p bs ls) (front (drop p bs)) (drop 2 (drop p bs)) bare' refl refl)).0 ∙ front_at bs p),
      λ h.
          let long : 2 ≤ length (drop p bs) = omega (arith, length-drop p bs, h.0) in
          let clear : free (p + 2) (from p ls) ≡ true = ⊎_elim (λ (u : free (p + 2) (from p ls) ≡ true). u) (λ (u : free (p + 2) (from p ls) ≡ false). absurd (h.1 (some_sooner p (p + 2) ls u))) (cases_Bool (free (p + 2) (from p ls))) in
          (_, word_is (seek p bs ls) w (drop 2 (drop p bs)) (and_from (leb 2 (length (drop p bs))) (free (p + 2) (from p ls)) (le-leb 2 (length (drop p bs)) long) clear) (h.2 ∙ sym (front_at bs p)) refl),
    )

-- the first link from p on is one of the vertex's
from_has : (p : ℕ) (ls : List Link) (m : Link) (ms : List Link) → from p ls ≡ m ∷ ms → (i : ℕ) × (i < length ls) × (get_or ls i no_link ≡ m)
from_has p [] m ms e = let z : ◌≡◌ {A = ℕ} 0 1 = cc in absurd (omega arith)
from_has p (l ∷ ls) m ms e =
    ⊎_elim
    (λ (u : l.position < p). let r = from_has p ls m ms (sym (left_out p l ls u) ∙ e) in (suc r.0, omega (arith, r.1), r.2))
    (λ (u : p ≤ l.position). let f = sym (took p l ls u) ∙ e in (0, omega arith, cc))
    (cases_lt l.position p)

width_same : (v w : LinkWidth) → width_of v ≡ width_of w → v ≡ w
width_same Two Two e = refl
width_same Two Three e = absurd (omega arith)
width_same Two Four e = absurd (omega arith)
width_same Three Two e = absurd (omega arith)
width_same Three Three e = refl
width_same Three Four e = absurd (omega arith)
width_same Four Two e = absurd (omega arith)
width_same Four Three e = absurd (omega arith)
width_same Four Four e = refl

some_wide : (w : LinkWidth) → 0 < width_of w
some_wide Two = omega arith
some_wide Three = omega arith
some_wide Four = omega arith

-- from its own position on, a link is the first
has_first : (p q : ℕ) (ls : List Link) (i : ℕ) → apart q ls ≡ true → i < length ls → (get_or ls i no_link).position ≡ p → from p ls ≡ drop i ls
has_first p q [] i a h e = absurd (omega arith)
has_first p q (l ∷ ls) zero a h e = took p l ls (omega arith)
has_first p q (l ∷ ls) (suc i) a h e =
    let t = and_parts (leb q l.position) (apart (l.position + width_of l.width) ls) a in
    let next = least (l.position + width_of l.width) ls i t.1 (omega arith) in
    let wide = some_wide l.width in
    left_out p l ls (omega arith) ∙ has_first p (l.position + width_of l.width) ls i t.1 (omega arith) e

pub offset_means : OffsetMeans
offset_means count x sound p w child =
    let bs = x.bytes in
    let ls = x.links in (
      λ g.
          let o = offset_ok w (seek p bs ls) child g.0 g.1 in
          let r = from_has p ls o.link o.later o.links in
          (r.0, r.1, r.2 ∙ (λ i. record { position = o.here i; child = o.child' i; width = width_same o.link.width w o.wide i })),
      λ h.
          let i = h.0 in
          let first = has_first p 0 ls i (ascending ls sound.0) h.1 (ap (λ l. l.position) h.2) in
          let head : get_or (from p ls) 0 no_link ≡ record { position = p; child = child; width = w } = ap (λ l. get_or l 0 no_link) first ∙ get_or-drop i ls 0 no_link ∙ ap (λ n. get_or ls n no_link) (add-zero i) ∙ h.2 in
          let long = (sound.1 i h.1).1 in
          let more : 0 < length (from p ls) = omega (arith, ap length first, length-drop i ls, h.1) in
          let wide : width_of w ≤ length (drop p bs) = omega (arith, length-drop p bs, ap (λ l. l.position) h.2, ap (λ l. width_of l.width) h.2) in
          let e = offset_is w (seek p bs ls) (drop 1 (from p ls)) (drop (width_of w) (drop p bs)) (width_of w) more wide (ap (λ l. l.position) head) (ap (λ l. width_of l.width) head) refl refl refl in
          (_, e ∙ ap (λ l. Ok (l.child, record { place = p + width_of w; bytes = drop (width_of w) (drop p bs); links = drop 1 (from p ls) })) head),
    )

pub nullable_means : NullableMeans
unfolding nullable
nullable_means count x sound p fits =
    let bs = x.bytes in
    let ls = x.links in
    let s = seek p bs ls in
    let null = then (allowed (eqb 0) s) (λ w. give None) in
    let child' = then (offset Two s) (λ child. give (Some child)) in (
      (λ child. (
        (λ g.
            ⊎_elim
            (λ (k : null ≡ Ok (Some child, g.0)). let o = then_ok (allowed (eqb 0) s) (λ w. give None) (Some child) g.0 k in let q = (ok_pair o.3).0 in let z : ◌≡◌ {A = ℕ} 0 1 = cc in absurd (omega arith))
            (λ (k : child' ≡ Ok (Some child, g.0)).
            let o = then_ok (offset Two s) (λ child. give (Some child)) (Some child) g.0 k in
            let q = (ok_pair o.3).0 in
            let q' : o.0 ≡ child = cc in
            (offset_means count x sound p Two child).0 (o.1, o.2 ∙ ap (λ c. Ok (c, o.1)) q'))
            (either (bare 2 s) null child' (Ok (Some child, g.0)) g.1)),
        λ h.
            let e = (offset_means count x sound p Two child).1 h in
            let o = offset_ok Two s child e.0 e.1 in
            let f : free (p + 2) (from p ls) ≡ false = ap (free (p + 2)) o.links ∙ lt-leb (p + 2) o.link.position (omega (arith, o.here)) in
            let b : bare 2 s ≡ false = and_right (leb 2 (length (drop p bs))) (free (p + 2) (from p ls)) f in
            (e.0, ap (λ b. cond b null child') b ∙ ap (λ y. then y (λ child. give (Some child))) e.1),
      )),
      (
        (λ g.
            ⊎_elim
            (λ (k : null ≡ Ok (None, g.0)).
            let o = then_ok (allowed (eqb 0) s) (λ w. give None) None g.0 k in
            let a = allowed_ok (eqb 0) s o.0 o.1 o.2 in
            let m = (word_means count x sound p o.0 fits).0 (o.1, a.0) in
            (m.0, m.1, eqb-true 0 o.0 a.1 ∙ m.2))
            (λ (k : child' ≡ Ok (None, g.0)).
            let o = then_ok (offset Two s) (λ child. give (Some child)) None g.0 k in let q = (ok_pair o.3).0 in let z : ◌≡◌ {A = ℕ} 0 1 = cc in absurd (omega arith))
            (either (bare 2 s) null child' (Ok (None, g.0)) g.1)),
        λ h.
            let e = (word_means count x sound p 0 fits).1 h in
            let o = word_ok s 0 e.0 e.1 in
            let b : bare 2 s ≡ true = and_from (leb 2 (length (drop p bs))) (free (p + 2) (from p ls)) (le-leb 2 (length (drop p bs)) o.0) o.1 in
            (e.0, ap (λ b. cond b null child') b ∙ ap (λ y. then (then y (λ w s'. cond (eqb 0 w) (Ok (w, s')) (Err p))) (λ w. give None)) e.1),
      ),
    )
