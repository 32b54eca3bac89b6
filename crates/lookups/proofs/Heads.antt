-- The fields of a lookup, without a list of its offsets.
use Rattle.std.proofs.Common.{◌≡◌, ℕ, zero, suc, Bool, true, false, cond, eqb, List, length, Some, Ok, Err, Result, unwrap_or, sym, refl, ap, ◌∙◌}
use Rattle.serialize.specs.declared.link.LinkWidth.TheVariants.{Two}
use Rattle.fields.specs.Fields.{Rest, Reader, start, word, offset, then, also, times, ended, give, ◌⟫◌}
use Rattle.fields.proofs.Seeks.{then_ok, also_ok, ok_pair}
use Rattle.serialize.specs.Objects.{Node}
use Rattle.markbase.specs.declared.lookup_type.LookupType.{LookupType}
use Rattle.markbase.specs.declared.lookup_type.LookupType.TheVariants.{MarkToBase}
use Rattle.markbase.specs.LookupTypes.{type_from}
use Rattle.markbase.specs.Nodes.{read}
use Rattle.markbase.proofs.Repeats.{onward}
use Rattle.lookups.specs.declared.lookup.LookupHead.{LookupHead}
use Rattle.lookups.specs.Tables.{Fields, filters, lookup, head_of}

times_length : {A : Type 0} (r : Reader A) (n : ℕ) (s : Rest) (as' : List A) (t : Rest) → times n r s ≡ Ok (as', t) → length as' ≡ n
times_length r zero s as' t e = ap length (sym (ok_pair e).0)
times_length r (suc n) s as' t e =
    let o = then_ok (r s) (λ a s. also a (times n r s)) as' t e in
    let q = also_ok o.0 (times n r o.1) as' t o.3 in
    ap length q.2 ∙ ap suc (times_length r n o.1 q.0 t q.1)

-- what follows the offsets
abbrev pub tail_of : LookupType → ℕ → ℕ → Rest → Result LookupHead ℕ
tail_of kind flag count s = ended (then (times (filters flag) word s) (λ filter. give record { kind = kind; flag = flag; count = count }))

abbrev rest_of : LookupType → ℕ → List ℕ → Reader Fields
rest_of kind flag children = times (filters flag) word ⟫ λ filter. give record { kind = kind; flag = flag; offsets = children; filter = filter }

head_cond : (b : Bool) (l : Fields) (p : ℕ) → head_of (cond b (Ok l) (Err p)) ≡ cond b (Ok record { kind = l.kind; flag = l.flag; count = length l.offsets }) (Err p)
head_cond true l p = refl
head_cond false l p = refl

tail_of_lem : (kind : LookupType) (flag : ℕ) (children : List ℕ) (x : Result (List ℕ × Rest) ℕ)
    → head_of (ended (then x (λ filter. give record { kind = kind; flag = flag; offsets = children; filter = filter }))) ≡ ended (then x (λ filter. give record { kind = kind; flag = flag; count = length children }))
tail_of_lem kind flag children (Ok r) = head_cond (eqb (length r.1.bytes) 0) record { kind = kind; flag = flag; offsets = children; filter = r.0 } r.1.place
tail_of_lem kind flag children (Err p) = refl

head_then : (kind : LookupType) (flag n : ℕ) (x : Result (List ℕ × Rest) ℕ) → ((as' : List ℕ) (t : Rest) → x ≡ Ok (as', t) → length as' ≡ n)
    → head_of (ended (then x (rest_of kind flag))) ≡ onward Err (tail_of kind flag n) x
head_then kind flag n (Ok r) h = tail_of_lem kind flag r.0 (times (filters flag) word r.1) ∙ ap (λ c. tail_of kind flag c r.1) (h r.0 r.1 refl)
head_then kind flag n (Err p) h = refl

head_opens : (kind : LookupType) (flag n : ℕ) (s : Rest) → head_of (ended (then (times n (offset Two) s) (rest_of kind flag))) ≡ onward Err (tail_of kind flag n) (times n (offset Two) s)
head_opens kind flag n s = head_then kind flag n (times n (offset Two) s) (times_length (offset Two) n s)

pub lookup_opens : (x : Node) (s₀ s₁ s₂ s₃ : Rest) (w flag n : ℕ) (kind : LookupType) → s₀ ≡ start x.bytes x.links → word s₀ ≡ Ok (w, s₁) → type_from w ≡ Some kind → word s₁ ≡ Ok (flag, s₂) → word s₂ ≡ Ok (n, s₃)
    → head_of (read lookup x) ≡ onward Err (tail_of kind flag n) (times n (offset Two) s₃)
lookup_opens x s₀ s₁ s₂ s₃ w flag n kind e₀ e₁ t e₂ e₃ =
    rw (← e₀, e₁, t, e₂, e₃)
    (head_opens (unwrap_or (type_from w) MarkToBase) flag n s₃ ∙ ap (λ k. onward Err (tail_of (unwrap_or k MarkToBase) flag n) (times n (offset Two) s₃)) t)
