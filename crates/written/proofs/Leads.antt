-- The links of a vertex lead where the values that are read say.
use Rattle.std.proofs.Common.{◌≡◌, ℕ, zero, suc, ◌+◌, ◌<◌, ◌≤◌, Bool, true, false, cond, eqb, ltb, leb, List, [], ◌∷◌, ◌++◌, map, length, is_some, Some, None, Ok, Err, Option, unwrap_or, sym, refl, ap, ◌∙◌, ⊎_elim, arith}
use Rattle.std.proofs.lemmas.List.{append_assoc, append-nil, length-drop}
use Rattle.std.proofs.ByRecursion.{All-from_get_or}
use Rattle.std.proofs.lemmas.Bool.{lt-leb, eqb-true}
use Rattle.std.specs.List.{flat_map, AllByRecursion}
use Rattle.serialize.specs.declared.link.Link.{Link}
use Rattle.serialize.specs.declared.link.LinkWidth.{LinkWidth}
use Rattle.serialize.specs.declared.link.LinkWidth.TheVariants.{Two, Three, Four}
use Rattle.serialize.specs.Width.{width_of}
use Rattle.serialize.specs.Objects.{no_link, link_at, Ascends}
use Rattle.fields.specs.Fields.{Rest, Reader, start, from, seek, bare, word, offset, nullable, then, allowed, give, also, times, ended, ◌⟫◌}
use Rattle.fields.specs.Arrays.{mark, mark_array_reader, base_array_reader, present}
use Rattle.fields.proofs.Seeks.{ok_pair, not_ok, either, ended_ok, then_ok, also_ok, word_ok, allowed_ok, offset_ok, word_steady, offset_steady}
use Rattle.markbase.specs.declared.lookup_type.LookupType.TheVariants.{MarkToBase}
use Rattle.markbase.specs.LookupTypes.{type_from}
use Rattle.markbase.specs.Tables.{table, subtable, extension}
use Rattle.markbase.proofs.Records.{start_seek}
use Rattle.lookups.specs.Tables.{lookup, filters}
use Rattle.written.specs.Laws.{LeadsTo, LinksLead}

-- where links lead
abbrev pub leads : List Link → List ℕ
leads ls = map (λ (l : Link). l.child) ls

-- no field is empty
wide : (w : LinkWidth) → 0 < width_of w
wide Two = omega arith
wide Three = omega arith
wide Four = omega arith

-- one anchor more
present_more : (o : Option ℕ) (os : List (Option ℕ)) → present (o ∷ os) ≡ present (o ∷ []) ++ present os
present_more (Some v) os = refl
present_more None os = refl

-- anchors, and more anchors
pub present_append : (os more : List (Option ℕ)) → present (os ++ more) ≡ present os ++ present more
present_append [] more = refl
present_append (Some v ∷ os) more = ap (λ l. v ∷ l) (present_append os more)
present_append (None ∷ os) more = present_append os more

-- links were passed that lead to the vertices before; where r then reads a value, all links passed lead to just its targets
pub record Sends (bs : List ℕ) (ls : List Link) (before : List ℕ) {A : Type 0} (r : Reader A) (targets : A → List ℕ) : Type 0 where
  pub goes : (p : ℕ) (a : A) (t : Rest) → r (seek p bs ls) ≡ Ok (a, t) → (q : ℕ) × (t ≡ seek q bs ls) × (before ++ leads (from p ls) ≡ targets a ++ leads t.links)

module _ {bs : List ℕ} {ls : List Link} where
  -- a value that no field gives
  pub give_sends : {A : Type 0} (a : A) {before : List ℕ} {targets : A → List ℕ} → before ≡ targets a → Sends bs ls before (give a) targets
  give_sends a {before} {targets} e = record {
    goes = λ p b t h.
        let o = ok_pair h in
        let f : before ≡ targets b = e ∙ ap targets o.0 in
        (p, sym o.1, λ i. f i ++ leads (o.1 i).links);
  }

  -- one after the other
  pub then_sends : {A B : Type 0} {r : Reader A} {next : A → Reader B} {f : A → List ℕ} {before : List ℕ} {targets : B → List ℕ}
      → Sends bs ls [] r f → ((a : A) → Sends bs ls (before ++ f a) (next a) targets) → Sends bs ls before (r ⟫ next) targets
  then_sends {A} {B} {r} {next} {f} {before} {targets} first second = record {
    goes = λ p b t h.
        let o = then_ok (r (seek p bs ls)) next b t h in
        let one = first.goes p o.0 o.1 o.2 in
        let two = (second o.0).goes one.0 b t (ap (next o.0) (sym one.1) ∙ o.3) in
        let here : leads o.1.links ≡ leads (from one.0 ls) = ap (λ (s : Rest). leads s.links) one.1 in
        (two.0, two.1, ap (λ l. before ++ l) (one.2 ∙ ap (λ l. f o.0 ++ l) here) ∙ sym (append_assoc before (f o.0) (leads (from one.0 ls))) ∙ two.2);
  }

  -- repetitions, where the targets of a list are those of its values one after the other
  module _ {A : Type 0} {r : Reader A} {f : A → List ℕ} (targets : List A → List ℕ) (none : [] ≡ targets []) (more : (a : A) (as' : List A) → f a ++ targets as' ≡ targets (a ∷ as')) (one : Sends bs ls [] r f) where
    -- one value more, which was read before
    also_sends : (a : A) {rs : Reader (List A)} → Sends bs ls [] rs targets → Sends bs ls (f a) (λ s. also a (rs s)) targets
    also_sends a {rs} two = record {
      goes = λ p b t h.
          let o = also_ok a (rs (seek p bs ls)) b t h in
          let u = two.goes p o.0 t o.1 in
          (u.0, u.1, ap (λ l. f a ++ l) u.2 ∙ sym (append_assoc (f a) (targets o.0) (leads t.links)) ∙ ap (λ l. l ++ leads t.links) (more a o.0 ∙ ap targets (sym o.2)));
    }

    -- n times the same
    pub times_sends : (n : ℕ) → Sends bs ls [] (times n r) targets
    times_sends zero = give_sends [] none
    times_sends (suc n) = then_sends one (λ a. also_sends a (times_sends n))

  -- fields, of ascending links
  module _ (up : Ascends ls) where
    -- words
    pub word_sends : Sends bs ls [] word (λ w. [])
    word_sends = record {
      goes = λ p w t h. (p + 2, (word_steady bs ls up).goes p w t h, ap (λ (s : Rest). leads s.links) (sym (word_ok (seek p bs ls) w t h).2));
    }

    -- words that are allowed
    pub allowed_sends : (ok : ℕ → Bool) → Sends bs ls [] (allowed ok) (λ w. [])
    allowed_sends ok = record { goes = λ p w t h. word_sends.goes p w t (allowed_ok ok (seek p bs ls) w t h).0 }

    -- offsets
    pub offset_sends : (w : LinkWidth) → Sends bs ls [] (offset w) (λ child. child ∷ [])
    offset_sends w = record {
      goes = λ p child t h.
          let o = offset_ok w (seek p bs ls) child t h in
          let links : t.links ≡ o.later = ap (λ (s : Rest). s.links) o.past' in
          (p + width_of w, (offset_steady bs ls up w (wide w)).goes p child t h, ap leads o.links ∙ (λ i. o.child' i ∷ leads (sym links i)));
    }

    -- offsets and nulls
    pub nullable_sends : Sends bs ls [] nullable (λ o. present (o ∷ []))
    unfolding nullable
    nullable_sends = record {
      goes = λ p o t h.
          let s = seek p bs ls in
          let null : Sends bs ls [] (allowed (eqb 0) ⟫ λ w. give None) (λ o. present (o ∷ [])) = then_sends (allowed_sends (eqb 0)) (λ w. give_sends None refl) in
          let some : Sends bs ls [] (offset Two ⟫ λ child. give (Some child)) (λ o. present (o ∷ [])) = then_sends (offset_sends Two) (λ child. give_sends (Some child) refl) in
          ⊎_elim (null.goes p o t) (some.goes p o t) (either (bare 2 s) (then (allowed (eqb 0) s) (λ w. give None)) (then (offset Two s) (λ child. give (Some child))) (Ok (o, t)) h);
    }

    -- marks
    pub mark_sends : (k : ℕ) → Sends bs ls [] (mark k) (λ m. present (m.1 ∷ []))
    mark_sends k = then_sends (allowed_sends (λ c. ltb c k)) (λ class. then_sends nullable_sends (λ anchor. give_sends (class, anchor) refl))

    -- mark arrays
    pub marks_sends : (n k : ℕ) → Sends bs ls [] (mark_array_reader n k) (λ ms. present (map (λ m. m.1) ms))
    marks_sends n k = then_sends (allowed_sends (eqb n)) (λ count. times_sends (λ ms. present (map (λ m. m.1) ms)) refl (λ m ms. sym (present_more m.1 (map (λ m. m.1) ms))) (mark_sends k) n)

    -- base arrays
    pub bases_sends : (n k : ℕ) → Sends bs ls [] (base_array_reader n k) (λ rows. present (flat_map (λ row. row) rows))
    bases_sends n k =
        then_sends (allowed_sends (eqb n))
        (λ count. times_sends (λ rows. present (flat_map (λ row. row) rows)) refl (λ row rows. sym (present_append row (flat_map (λ row. row) rows)))
        (times_sends present refl (λ o os. sym (present_more o os)) nullable_sends k) n)

    -- subtables
    pub subtable_sends : Sends bs ls [] subtable (λ t. t.mark_coverage ∷ t.base_coverage ∷ t.mark_array ∷ t.base_array ∷ [])
    subtable_sends =
        then_sends (allowed_sends (eqb 1))
        (λ format. then_sends (offset_sends Two)
        (λ marks. then_sends (offset_sends Two)
        (λ bases. then_sends (allowed_sends (leb 1))
        (λ classes. then_sends (offset_sends Two)
        (λ mark_array. then_sends (offset_sends Two)
        (λ base_array. give_sends (table marks bases classes mark_array base_array) refl))))))

    -- extensions
    pub extension_sends : Sends bs ls [] extension (λ x. x.subtable ∷ [])
    extension_sends =
        then_sends (allowed_sends (eqb 1)) (λ format. then_sends (allowed_sends (eqb 4)) (λ kind. then_sends (offset_sends Four) (λ child. give_sends (record { subtable = child }) refl)))

    -- lookups
    pub lookup_sends : Sends bs ls [] lookup (λ l. l.offsets)
    lookup_sends =
        then_sends (allowed_sends (λ w. is_some (type_from w)))
        (λ kind. then_sends word_sends
        (λ flag. then_sends word_sends
        (λ count. then_sends (times_sends (λ cs. cs) refl (λ c cs. refl) (offset_sends Two) count)
        (λ offsets. then_sends (times_sends (λ ws. []) refl (λ w ws. refl) word_sends (filters flag))
        (λ filter. give_sends (record { kind = unwrap_or (type_from kind) MarkToBase; flag = flag; offsets = offsets; filter = filter }) (append-nil offsets))))))

-- a condition that a reading has passed
passed : {A : Type 0} (b : Bool) (a : A) (p : ℕ) → cond b (Ok a) (Err p) ≡ Ok a → b ≡ true
passed true a p e = refl
passed false a p e = absurd (not_ok e)

-- no link starts at q or later
from_none : (q : ℕ) (ls : List Link) → AllByRecursion (λ l. l.position < q) ls → from q ls ≡ []
from_none q [] h = refl
from_none q (l ∷ ls) h = ap (λ b. cond b (l ∷ ls) (from q ls)) (lt-leb q l.position h.0) ∙ from_none q ls h.1

-- a whole vertex
pub whole_leads : {A : Type 0} {r : Reader A} {targets : A → List ℕ} → ((bs : List ℕ) (ls : List Link) → Ascends ls → Sends bs ls [] r targets) → LeadsTo r targets
whole_leads {A} {r} {targets} sends count x sound a e =
    let bs = x.bytes in
    let ls = x.links in
    let o = ended_ok (r (start bs ls)) a e in
    let t = o.0 in
    let s = (sends bs ls sound.0).goes 0 a t (ap r (sym (start_seek bs ls)) ∙ o.1) in
    let empty = eqb-true (length t.bytes) 0 (passed (eqb (length t.bytes) 0) a t.place (sym (ap ended o.1) ∙ e)) in
    let past : length bs ≤ s.0 = omega (arith, length-drop s.0 bs, ap (λ (s : Rest). length s.bytes) s.1) in
    let low : AllByRecursion (λ l. l.position < s.0) ls = All-from_get_or (λ (l : Link). l.position < s.0) ls no_link (λ i h. omega (arith, (sound.1 i h).1, wide (link_at ls i).width)) in
    let none : leads t.links ≡ [] = ap (λ (s : Rest). leads s.links) s.1 ∙ ap leads (from_none s.0 ls low) in
    ap (λ (s : Rest). leads s.links) (start_seek bs ls) ∙ s.2 ∙ ap (λ l. targets a ++ l) none ∙ append-nil (targets a)

-- the links of the tables
pub links_lead : LinksLead
links_lead = record {
  marks = λ n k. whole_leads (λ bs ls up. marks_sends up n k);
  bases = λ n k. whole_leads (λ bs ls up. bases_sends up n k);
  table = whole_leads (λ bs ls up. subtable_sends up);
  behind = whole_leads (λ bs ls up. extension_sends up);
  lookups = whole_leads (λ bs ls up. lookup_sends up);
}
