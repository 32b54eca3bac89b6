-- Records by their number: what is read there, and where the reader then stands.
use Rattle.std.proofs.Common.{◌≡◌, ℕ, zero, suc, ◌+◌, ◌*◌, ◌<◌, ◌≤◌, Bool, true, false, cond, ◌&&◌, eqb, leb, ltb, ◌⊎◌, List, [], ◌∷◌, length, get_or, drop, is_ok, Some, None, Ok, Err, Option, Result, sym, refl, ap, ◌∙◌, inl, inr, ⊎_elim, add_assoc, suc-mul, mul-zero, mul-suc, arith}
use Rattle.std.proofs.lemmas.List.{drop-drop, drop_all, get_or_default}
use Rattle.std.specs.List.Sorted.{IsNonDecreasingBy, IsPartitionPoint}
use Rattle.std.proofs.lemmas.Bool.{le-leb, lt-leb, leb-true, leb-false, ltb-true, ltb-false, eqb-true, and_parts, cases_Bool, cases_lt}
use Rattle.serialize.specs.declared.link.Link.{Link}
use Rattle.serialize.specs.declared.link.LinkWidth.{LinkWidth}
use Rattle.serialize.specs.declared.link.LinkWidth.TheVariants.{Two}
use Rattle.serialize.specs.Objects.{no_link, Ascends}
use Rattle.serialize.specs.Width.{width_of}
use Rattle.layout.specs.declared.located.Located.{Located}
use Rattle.fields.specs.declared.fault.Fault.{Fault}
use Rattle.fields.specs.Cursors.{Gives}
use Rattle.fields.specs.Fields.{Rest, Reader, free, bare, past, belongs, linked, front, word, offset, nullable, then, allowed, give, also, times, ended, ◌⟫◌, from, seek}
use Rattle.fields.proofs.Apart.{apart, ascending}

-- the links from a place on: the first link is among them, or it is left out
pub took : (p : ℕ) (l : Link) (ls : List Link) → p ≤ l.position → from p (l ∷ ls) ≡ l ∷ ls
took p l ls h = ap (λ c. cond c (l ∷ ls) (from p ls)) (le-leb p l.position h)

pub left_out : (p : ℕ) (l : Link) (ls : List Link) → l.position < p → from p (l ∷ ls) ≡ from p ls
left_out p l ls h = ap (λ c. cond c (l ∷ ls) (from p ls)) (lt-leb p l.position h)

-- positions do not fall
pub rising : (ls : List Link) → Ascends ls → IsNonDecreasingBy (λ (l : Link). l.position) ls
rising ls up i j d le lt =
    ⊎_elim
    (λ (u : i < j).
    let a = up i j u lt in
    let e = get_or_default ls i no_link d (omega arith) in
    let f = get_or_default ls j no_link d lt in
    omega (arith, ap (λ (l : Link). l.position) e, ap (λ (l : Link). l.position) f))
    (λ (u : j ≤ i). let e : i ≡ j = omega arith in omega (arith, ap (λ k. (get_or ls k d).position) e))
    (cases_lt i j)

-- where the first i links start before p and the others do not, the others are those from p on
pub from_parted : (p : ℕ) (ls : List Link) (i : ℕ) → IsPartitionPoint (λ (l : Link). ltb l.position p ≡ true) (λ (l : Link). ltb l.position p ≡ false) ls i → drop i ls ≡ from p ls
from_parted p [] i h = drop_all i [] (omega arith)
from_parted p (l ∷ ls) zero h = sym (took p l ls (ltb-false l.position p (h.1 0 l (omega arith) (omega arith))))
from_parted p (l ∷ ls) (suc i) h =
    from_parted p ls i (λ k d low high. h.0 (suc k) d (omega arith) (omega arith), λ k d low high. h.1 (suc k) d (omega arith) (omega arith))
    ∙ sym (left_out p l ls (ltb-true l.position p (h.0 0 l (omega arith) (omega arith))))

pub from_free : (e : ℕ) (ls : List Link) → free e ls ≡ true → from e ls ≡ ls
from_free e [] h = refl
from_free e (l ∷ ls) h = rw h

pub from_later : (p e : ℕ) (ls : List Link) → p ≤ e → from e (from p ls) ≡ from e ls
from_later p e [] h = refl
from_later p e (l ∷ ls) h =
    ⊎_elim
    (λ (t : leb p l.position ≡ true). ap (from e) (ap (λ b. cond b (l ∷ ls) (from p ls)) t))
    (λ (t : leb p l.position ≡ false).
    let u = lt-leb e l.position (omega (arith, leb-false p l.position t)) in
    ap (from e) (ap (λ b. cond b (l ∷ ls) (from p ls)) t) ∙ from_later p e ls h ∙ sym (ap (λ b. cond b (l ∷ ls) (from e ls)) u))
    (cases_Bool (leb p l.position))

-- the first link is the least
pub least : (q : ℕ) (ls : List Link) (m : ℕ) → apart q ls ≡ true → m < length ls → q ≤ (get_or ls m no_link).position
least q [] m a h = absurd (omega arith)
least q (l ∷ ls) zero a h = leb-true q l.position (and_parts (leb q l.position) (apart (l.position + width_of l.width) ls) a).0
least q (l ∷ ls) (suc m) a h =
    let t = and_parts (leb q l.position) (apart (l.position + width_of l.width) ls) a in
    let u = least (l.position + width_of l.width) ls m t.1 (omega arith) in
    omega (arith, leb-true q l.position t.0)

pub apart_free : (q : ℕ) (ls : List Link) → apart q ls ≡ true → free q ls ≡ true
apart_free q [] a = refl
apart_free q (l ∷ ls) a = (and_parts (leb q l.position) (apart (l.position + width_of l.width) ls) a).0

-- no link starts in the field of the first one from p on
after_free : (p q : ℕ) (ls : List Link) (m : Link) (ms : List Link) → apart q ls ≡ true → from p ls ≡ m ∷ ms → free (m.position + width_of m.width) ms ≡ true
after_free p q [] m ms a e = let z : ◌≡◌ {A = ℕ} 0 1 = cc in absurd (omega arith)
after_free p q (l ∷ ls) m ms a e =
    let t = and_parts (leb q l.position) (apart (l.position + width_of l.width) ls) a in
    ⊎_elim
    (λ (b : leb p l.position ≡ true).
    let f : l ∷ ls ≡ m ∷ ms = sym (ap (λ b. cond b (l ∷ ls) (from p ls)) b) ∙ e in
    let g : l ≡ m = cc in
    let h : ls ≡ ms = cc in
    rw (← g, ← h) (apart_free (l.position + width_of l.width) ls t.1))
    (λ (b : leb p l.position ≡ false).
    after_free p (l.position + width_of l.width) ls m ms t.1 (sym (ap (λ b. cond b (l ∷ ls) (from p ls)) b) ∙ e))
    (cases_Bool (leb p l.position))

-- what an unbroken reading was made of

pub ok_pair : {A : Type 0} {a b : A} {s t : Rest} → ◌≡◌ {A = Result (A × Rest) ℕ} (Ok (a, s)) (Ok (b, t)) → (a ≡ b) × (s ≡ t)
ok_pair {A} {a} {b} {s} {t} e = let f : ◌≡◌ {A = A × Rest} (a, s) (b, t) = cc in (ap (λ x. x.0) f, ap (λ x. x.1) f)

pub not_ok : {A : Type 0} {p : ℕ} {a : A} → ◌≡◌ {A = Result A ℕ} (Err p) (Ok a) → ⊥
not_ok e = let z : ◌≡◌ {A = ℕ} 0 1 = cc in omega arith

-- what an answer gives where the reading is unbroken
module _ {A : Type 0} (read : Result (A × Rest) ℕ) (p : ℕ) (s : Rest) (a : A) (t : Rest) (e : read ≡ Ok (a, t)) where
  pub given_ok : (r : Result (Located A) Fault) → Gives read p r s → is_ok r ≡ true
  given_ok (Ok l) g = refl
  given_ok (Err f) g = absurd (not_ok (sym g ∙ e))

  pub given_value : (r : Result (Located A) Fault) (l : Located A) → Gives read p r s → r ≡ Ok l → l.value ≡ a
  given_value (Ok k) l g is = let same : k ≡ l = cc in sym (ap (λ (m : Located A). m.value) same) ∙ (ok_pair (sym g.0 ∙ e)).0
  given_value (Err f) l g is = absurd (not_ok (sym g ∙ e))

kept : {A : Type 0} (b : Bool) (x : A) (p : ℕ) (y : A) → cond b (Ok x) (Err p) ≡ Ok y → (b ≡ true) × (x ≡ y)
kept true x p y e = (refl, cc)
kept false x p y e = absurd (not_ok e)

pub either : {A : Type 0} (b : Bool) (x y z : A) → cond b x y ≡ z → (x ≡ z) ⊎ (y ≡ z)
either true x y z e = inl e
either false x y z e = inr e

pub ended_ok : {A : Type 0} (x : Result (A × Rest) ℕ) (a : A) → ended x ≡ Ok a → (t : Rest) × (x ≡ Ok (a, t))
ended_ok (Ok r) a e = (r.1, ap (λ a. Ok (a, r.1)) (kept (eqb (length r.1.bytes) 0) r.0 r.1.place a e).1)
ended_ok (Err p) a e = absurd (not_ok e)

pub then_ok : {A B : Type 0} (x : Result (A × Rest) ℕ) (next : A → Reader B) (b : B) (s : Rest) → then x next ≡ Ok (b, s) → (a : A) × (t : Rest) × (x ≡ Ok (a, t)) × (next a t ≡ Ok (b, s))
then_ok (Ok r) next b s e = (r.0, r.1, refl, e)
then_ok (Err p) next b s e = absurd (not_ok e)

pub also_ok : {A : Type 0} (a : A) (x : Result (List A × Rest) ℕ) (bs : List A) (s : Rest) → also a x ≡ Ok (bs, s) → (cs : List A) × (x ≡ Ok (cs, s)) × (bs ≡ a ∷ cs)
also_ok a (Ok r) bs s e = let p = ok_pair e in (r.0, ap (λ t. Ok (r.0, t)) p.1, sym p.0)
also_ok a (Err p) bs s e = absurd (not_ok e)

pub word_ok : (s : Rest) (w : ℕ) (t : Rest) → word s ≡ Ok (w, t) → (2 ≤ length s.bytes) × (free (s.place + 2) s.links ≡ true) × (t ≡ past 2 s.links s)
unfolding word
word_ok s w t e =
    let k = kept (bare 2 s) (front s.bytes, past 2 s.links s) s.place (w, t) e in
    let parts = and_parts (leb 2 (length s.bytes)) (free (s.place + 2) s.links) k.0 in
    (leb-true 2 (length s.bytes) parts.0, parts.1, sym (ap (λ x. x.1) k.1))

pub allowed_ok : (ok : ℕ → Bool) (s : Rest) (w : ℕ) (t : Rest) → allowed ok s ≡ Ok (w, t) → (word s ≡ Ok (w, t)) × (ok w ≡ true)
allowed_ok ok s w t e =
    let p = then_ok (word s) (λ w s'. cond (ok w) (Ok (w, s')) (Err s.place)) w t e in
    let k = kept (ok p.0) (p.0, p.1) s.place (w, t) p.3 in
    (p.2 ∙ ap Ok k.1, sym (ap (λ x. ok x.0) k.1) ∙ k.0)

pub record Linked (w : LinkWidth) (s : Rest) (child : ℕ) (t : Rest) : Type 0 where
  pub link : Link
  pub later : List Link
  pub links : s.links ≡ link ∷ later
  pub here : link.position ≡ s.place
  pub wide : width_of link.width ≡ width_of w
  pub long : width_of w ≤ length s.bytes
  pub child' : link.child ≡ child
  pub past' : t ≡ past (width_of w) later s

linked_ok : (w : LinkWidth) (s : Rest) (ls : List Link) (child : ℕ) (t : Rest) → ls ≡ s.links → linked w s ls ≡ Ok (child, t) → Linked w s child t
linked_ok w s [] child t h e = absurd (not_ok e)
linked_ok w s (l ∷ ls) child t h e =
    let k = kept (belongs w s l) (l.child, past (width_of w) ls s) s.place (child, t) e in
    let parts = and_parts (leb (width_of w) (length s.bytes)) (eqb l.position s.place && eqb (width_of l.width) (width_of w)) k.0 in
    let more = and_parts (eqb l.position s.place) (eqb (width_of l.width) (width_of w)) parts.1 in
    record { link = l; later = ls; links = sym h; here = eqb-true l.position s.place more.0; wide = eqb-true (width_of l.width) (width_of w) more.1; long = leb-true (width_of w) (length s.bytes) parts.0; child' = ap (λ x. x.0) k.1; past' = sym (ap (λ x. x.1) k.1) }

pub offset_ok : (w : LinkWidth) (s : Rest) (child : ℕ) (t : Rest) → offset w s ≡ Ok (child, t) → Linked w s child t
unfolding offset
offset_ok w s child t e = linked_ok w s s.links child t refl e

pub nullable_long : (s : Rest) (a : Option ℕ) (t : Rest) → nullable s ≡ Ok (a, t) → 2 ≤ length s.bytes
unfolding nullable
nullable_long s a t e =
    ⊎_elim
    (λ (k : then (allowed (eqb 0) s) (λ w. give None) ≡ Ok (a, t)).
    let o = then_ok (allowed (eqb 0) s) (λ w. give None) a t k in
    (word_ok s o.0 o.1 (allowed_ok (eqb 0) s o.0 o.1 o.2).0).0)
    (λ (k : then (offset Two s) (λ child. give (Some child)) ≡ Ok (a, t)).
    let o = then_ok (offset Two s) (λ child. give (Some child)) a t k in
    (offset_ok Two s o.0 o.1 o.2).long)
    (either (bare 2 s) (then (allowed (eqb 0) s) (λ w. give None)) (then (offset Two s) (λ child. give (Some child))) (Ok (a, t)) e)

-- the readers that stand w bytes further on after each unbroken reading, of this vertex
pub record Steady (bs : List ℕ) (ls : List Link) {A : Type 0} (r : Reader A) (w : ℕ) : Type 0 where
  pub goes : (p : ℕ) (a : A) (t : Rest) → r (seek p bs ls) ≡ Ok (a, t) → t ≡ seek (p + w) bs ls

module _ (bs : List ℕ) (ls : List Link) (up : Ascends ls) where
  pub word_steady : Steady bs ls word 2
  word_steady = record {
    goes = λ p a t e.
        let o = word_ok (seek p bs ls) a t e in
        let links : from p ls ≡ from (p + 2) ls = sym (from_free (p + 2) (from p ls) o.1) ∙ from_later p (p + 2) ls (omega arith) in
        o.2 ∙ (λ i. record { place = p + 2; bytes = drop-drop 2 p bs i; links = links i });
  }

  pub allowed_steady : (ok : ℕ → Bool) → Steady bs ls (allowed ok) 2
  allowed_steady ok = record { goes = λ p a t e. word_steady.goes p a t (allowed_ok ok (seek p bs ls) a t e).0 }

  pub offset_steady : (w : LinkWidth) → 0 < width_of w → Steady bs ls (offset w) (width_of w)
  offset_steady w some = record {
    goes = λ p a t e.
        let o = offset_ok w (seek p bs ls) a t e in
        let next = p + width_of w in
        let q : p + width_of w ≡ o.link.position + width_of o.link.width = omega (arith, o.here, o.wide) in
        let f : free next o.later ≡ true = ap (λ n. free n o.later) q ∙ after_free p 0 ls o.link o.later (ascending ls up) o.links in
        let u = lt-leb next o.link.position (omega (arith, o.here)) in
        let skip : from next (o.link ∷ o.later) ≡ o.later = ap (λ b. cond b (o.link ∷ o.later) (from next o.later)) u ∙ from_free next o.later f in
        let links : o.later ≡ from next ls = sym skip ∙ ap (from next) (sym o.links) ∙ from_later p next ls (omega arith) in
        o.past' ∙ (λ i. record { place = next; bytes = drop-drop (width_of w) p bs i; links = links i });
  }

  pub nullable_steady : Steady bs ls nullable 2
  unfolding nullable
  nullable_steady = record {
    goes = λ p a t e.
        let s = seek p bs ls in
        ⊎_elim
        (λ (k : then (allowed (eqb 0) s) (λ w. give None) ≡ Ok (a, t)).
        let o = then_ok (allowed (eqb 0) s) (λ w. give None) a t k in
        sym (ok_pair o.3).1 ∙ (allowed_steady (eqb 0)).goes p o.0 o.1 o.2)
        (λ (k : then (offset Two s) (λ child. give (Some child)) ≡ Ok (a, t)).
        let o = then_ok (offset Two s) (λ child. give (Some child)) a t k in
        sym (ok_pair o.3).1 ∙ (offset_steady Two (omega arith)).goes p o.0 o.1 o.2)
        (either (bare 2 s) (then (allowed (eqb 0) s) (λ w. give None)) (then (offset Two s) (λ child. give (Some child))) (Ok (a, t)) e);
  }

  pub then_steady : {A B : Type 0} (r : Reader A) (next : A → Reader B) (w v : ℕ) → Steady bs ls r w → ((a : A) → Steady bs ls (next a) v) → Steady bs ls (r ⟫ next) (w + v)
  then_steady r next w v one two = record {
    goes = λ p b t e.
        let o = then_ok (r (seek p bs ls)) next b t e in
        let f = one.goes p o.0 o.1 o.2 in
        (two o.0).goes (p + w) b t (ap (next o.0) (sym f) ∙ o.3) ∙ ap (λ q. seek q bs ls) (add_assoc p w v);
  }

  pub give_steady : {A B : Type 0} (r : Reader A) (f : A → B) (w : ℕ) → Steady bs ls r w → Steady bs ls (r ⟫ λ v. give (f v)) w
  give_steady r f w one = record {
    goes = λ p b t e.
        let o = then_ok (r (seek p bs ls)) (λ v. give (f v)) b t e in
        sym (ok_pair o.3).1 ∙ one.goes p o.0 o.1 o.2;
  }

  pub times_steady : {A : Type 0} (r : Reader A) (w : ℕ) → Steady bs ls r w → (n p : ℕ) (as' : List A) (t : Rest) → times n r (seek p bs ls) ≡ Ok (as', t) → (t ≡ seek (p + n * w) bs ls) × (length as' ≡ n)
  times_steady r w one zero p as' t e = let o = ok_pair e in (sym o.1 ∙ ap (λ q. seek q bs ls) (omega arith), ap length (sym o.0))
  times_steady r w one (suc n) p as' t e =
      let o = then_ok (r (seek p bs ls)) (λ a s. also a (times n r s)) as' t e in
      let q = also_ok o.0 (times n r o.1) as' t o.3 in
      let f = one.goes p o.0 o.1 o.2 in
      let h = times_steady r w one n (p + w) q.0 t (ap (times n r) (sym f) ∙ q.1) in
      (h.0 ∙ ap (λ q. seek q bs ls) (add_assoc p w (n * w) ∙ ap (λ x. p + x) (omega (arith, suc-mul n w))), ap length q.2 ∙ ap suc h.1)

  -- the record at i stands i * w bytes on
  pub times_at : {A : Type 0} (r : Reader A) (w : ℕ) → Steady bs ls r w → (n p : ℕ) (as' : List A) (t : Rest) → times n r (seek p bs ls) ≡ Ok (as', t)
      → (i : ℕ) (d : A) → i < n → (u : Rest) × (r (seek (p + w * i) bs ls) ≡ Ok (get_or as' i d, u))
  times_at r w one zero p as' t e i d h = absurd (omega arith)
  times_at r w one (suc n) p as' t e zero d h =
      let o = then_ok (r (seek p bs ls)) (λ a s. also a (times n r s)) as' t e in
      let q = also_ok o.0 (times n r o.1) as' t o.3 in
      (o.1, ap (λ x. r (seek x bs ls)) (omega (arith, mul-zero w)) ∙ o.2 ∙ ap (λ l. Ok (get_or l 0 d, o.1)) (sym q.2))
  times_at r w one (suc n) p as' t e (suc i) d h =
      let o = then_ok (r (seek p bs ls)) (λ a s. also a (times n r s)) as' t e in
      let q = also_ok o.0 (times n r o.1) as' t o.3 in
      let f = one.goes p o.0 o.1 o.2 in
      let g = times_at r w one n (p + w) q.0 t (ap (times n r) (sym f) ∙ q.1) i d (omega arith) in
      (g.0, ap (λ x. r (seek x bs ls)) (omega (arith, mul-suc w i)) ∙ g.1 ∙ ap (λ l. Ok (get_or l (suc i) d, g.0)) (sym q.2))
