-- The offsets of a lookup, by their numbers.
use Rattle.std.proofs.Common.{◌≡◌, ℕ, ◌+◌, ◌*◌, ◌<◌, ◌≤◌, List, length, get_or, is_some, is_ok, Ok, Err, Result, sym, refl, ap, ◌∙◌, arith}
use Rattle.std.proofs.lemmas.List.{length-drop}
use Rattle.markbase.specs.Values.{Subtable}
use Rattle.serialize.specs.declared.link.LinkWidth.TheVariants.{Two}
use Rattle.serialize.specs.Objects.{Node, node_at, Ascends}
use Rattle.fields.specs.Fields.{Rest, start, seek, word, offset, allowed, times}
use Rattle.fields.proofs.Seeks.{ended_ok, then_ok, ok_pair, not_ok, offset_ok, word_steady, allowed_steady, offset_steady, times_steady, times_at}
use Rattle.markbase.specs.LookupTypes.{type_from}
use Rattle.markbase.specs.Nodes.{node_of, read}
use Rattle.markbase.proofs.Records.{start_seek}
use Rattle.lookups.specs.declared.lookup.Lookup.{Lookup}
use Rattle.lookups.specs.declared.lookup.LookupHead.{LookupHead}
use Rattle.lookups.specs.Tables.{Fields, filters, lookup, head_of}
use Rattle.lookups.specs.declared.fault.LookupFault.{LookupFault}
use Rattle.lookups.specs.Values.{valued, subtables_from, lookup_from, lookup_of}
use Rattle.lookups.specs.Views.{offsets_in, offsets_of}

-- the fields of a lookup that was read
pub record Found (x : Result Fields ℕ) (h : LookupHead) : Type 0 where
  pub fields : Fields
  pub is : x ≡ Ok fields
  pub kind : fields.kind ≡ h.kind
  pub count : length fields.offsets ≡ h.count

pub head_found : (x : Result Fields ℕ) (h : LookupHead) → head_of x ≡ Ok h → Found x h
head_found (Ok f) h e =
    let same : ◌≡◌ {A = LookupHead} record { kind = f.kind; flag = f.flag; count = length f.offsets } h = cc in
    record { fields = f; is = refl; kind = ap (λ (a : LookupHead). a.kind) same; count = ap (λ (a : LookupHead). a.count) same }
head_found (Err p) h e = absurd (not_ok e)

module _ (x : Node) (up : Ascends x.links) (f : Fields) (e : read lookup x ≡ Ok f) where
  -- the offsets stand from place 6 on
  behind : (n : ℕ) × (t : Rest) × (times n (offset Two) (seek 6 x.bytes x.links) ≡ Ok (f.offsets, t))
  behind =
      let bs = x.bytes in
      let ls = x.links in
      let s = start bs ls in
      let o = ended_ok (lookup s) f e in
      let a = then_ok (allowed (λ w. is_some (type_from w)) s) _ f o.0 o.1 in
      let one = (allowed_steady bs ls up (λ w. is_some (type_from w))).goes 0 a.0 a.1 (ap (allowed (λ w. is_some (type_from w))) (sym (start_seek bs ls)) ∙ a.2) in
      let b = then_ok (word a.1) _ f o.0 a.3 in
      let two = (word_steady bs ls up).goes 2 b.0 b.1 (ap word (sym one) ∙ b.2) in
      let c = then_ok (word b.1) _ f o.0 b.3 in
      let three = (word_steady bs ls up).goes 4 c.0 c.1 (ap word (sym two) ∙ c.2) in
      let d = then_ok (times c.0 (offset Two) c.1) _ f o.0 c.3 in
      let g = then_ok (times (filters b.0) word d.1) _ f o.0 d.3 in
      let same = ap (λ (l : Fields). l.offsets) (ok_pair g.3).0 in
      (c.0, d.1, ap (times c.0 (offset Two)) (sym three) ∙ d.2 ∙ ap (λ vs. Ok (vs, d.1)) same)

  pub offset_at : (i : ℕ) → i < length f.offsets → (u : Rest) × (offset Two (seek (6 + 2 * i) x.bytes x.links) ≡ Ok (get_or f.offsets i 0, u))
  offset_at i h =
      let r = behind in
      let steady = offset_steady x.bytes x.links up Two (omega arith) in
      let many = (times_steady x.bytes x.links up (offset Two) 2 steady r.0 6 f.offsets r.1 r.2).1 in
      times_at x.bytes x.links up (offset Two) 2 steady r.0 6 f.offsets r.1 r.2 i 0 (omega arith)

  pub offset_within : (i : ℕ) → i < length f.offsets → 6 + 2 * i ≤ length x.bytes
  offset_within i h =
      let r = offset_at i h in
      omega (arith, (offset_ok Two (seek (6 + 2 * i) x.bytes x.links) (get_or f.offsets i 0) r.0 r.1).long, length-drop (6 + 2 * i) x.bytes)

-- a view
pub fields_of : (l : Lookup) → Found (read lookup (node_of l.vertex)) l.head
fields_of l = head_found (read lookup (node_of l.vertex)) l.head l.stands

pub offsets_are : (l : Lookup) → offsets_of l ≡ (fields_of l).fields.offsets
unfolding offsets_of
offsets_are l = ap offsets_in (fields_of l).is

pub subtable_at_lem : (l : Lookup) (i : ℕ) → i < l.head.count
    → (6 + 2 * i ≤ length (node_of l.vertex).bytes) × ((u : Rest) × (offset Two (seek (6 + 2 * i) (node_of l.vertex).bytes (node_of l.vertex).links) ≡ Ok (get_or (offsets_of l) i 0, u)))
subtable_at_lem l i h =
    let r = fields_of l in
    let lt : i < length r.fields.offsets = omega (arith, r.count) in
    let o = offset_at (node_of l.vertex) l.ascending r.fields r.is i lt in
    (offset_within (node_of l.vertex) l.ascending r.fields r.is i lt, (o.0, o.1 ∙ ap (λ vs. Ok (get_or vs i 0, o.0)) (sym (offsets_are l))))

pub offsets_count : (l : Lookup) → length (offsets_of l) ≡ l.head.count
offsets_count l = ap length (offsets_are l) ∙ (fields_of l).count

-- the lookup that a view stands for
pub lookup_is : (nodes : List Node) (v : ℕ) (l : Lookup) → node_of l.vertex ≡ node_at nodes v → lookup_of nodes v ≡ valued (fields_of l).fields (subtables_from nodes l.head.kind 0 (offsets_of l))
lookup_is nodes v l here =
    let f = fields_of l in
    ap (λ (x : Node). lookup_from nodes (read lookup x)) (sym here) ∙ ap (lookup_from nodes) f.is ∙ (λ i. valued f.fields (subtables_from nodes (f.kind i) 0 (sym (offsets_are l) i)))

pub valued_ok : (f : Fields) (x : Result (List Subtable) LookupFault) → is_ok (valued f x) ≡ is_ok x
valued_ok f (Ok ts) = refl
valued_ok f (Err g) = refl
