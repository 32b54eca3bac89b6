-- The pieces of a cutting hit as the whole does.
use Rattle.std.proofs.Common.{◌≡◌, ℕ, ◌<◌, ◌≤◌, true, ltb, ◌⊎◌, List, [], ◌∷◌, ◌++◌, length, Some, None, filter, Option, sym, refl, ap, ◌∙◌, ap₂, inl, inr, append_assoc, append-nil, arith}
use native.Mathlib.Decide.{dec_lt}
use Rattle.std.specs.List as lists
use Rattle.std.proofs.lemmas.Bool.{cond-true, cond-false, and_parts}
use Rattle.coverage_writers.specs.Writing.{ascends, listed}
use Rattle.cutting.specs.Cutting.{Cutting}
use Rattle.markbase.specs.declared.hits.Hit.{Hit}
use Rattle.markbase.specs.Values.{Mark, Base, Contents, Subtable}
use Rattle.markbase.specs.Hits.{meet, hit_of, mark_in, base_in}
use Rattle.lookups.specs.Hits.{joined, hits_in}
use Rattle.pieces.specs.Pieces.{in_run, renumbered, row_part, piece, pieces, mark_glyphs, Formed}
use Rattle.pieces.specs.Keeping.{contents_of}
use Rattle.pieces.proofs.Glyphs.{mapped, filtered, find_map, find_kept}
use Rattle.pieces.proofs.Shapes.{in_yes, in_no, get_d_part, whole_piece}
use Rattle.pieces.proofs.Together.{runs_joined}

-- a hit, if there is one, as a list
abbrev list_of : Option Hit → List Hit
list_of (Some h) = h ∷ []
list_of None = []

-- the hits of what is held
abbrev hits_of : List Contents → ℕ → ℕ → List Hit
hits_of cs m g = lists.flat_map (λ (c : Contents). list_of (hit_of c m g)) cs

joined_is : (o : Option Hit) (hs : List Hit) → joined o hs ≡ list_of o ++ hs
joined_is (Some h) hs = refl
joined_is None hs = refl

-- hits come from what is held alone
hits_are : (ts : List Subtable) (m g : ℕ) → hits_in ts m g ≡ hits_of (contents_of ts) m g
hits_are [] m g = refl
hits_are (t ∷ ts) m g = ap (joined (hit_of t.contents m g)) (hits_are ts m g) ∙ joined_is (hit_of t.contents m g) (hits_of (contents_of ts) m g)

pub hits_append : (ts us : List Subtable) (m g : ℕ) → hits_in (ts ++ us) m g ≡ hits_in ts m g ++ hits_in us m g
hits_append [] us m g = refl
hits_append (t ∷ ts) us m g =
    ap (joined (hit_of t.contents m g)) (hits_append ts us m g) ∙ joined_is (hit_of t.contents m g) (hits_in ts m g ++ hits_in us m g)
    ∙ sym (append_assoc (list_of (hit_of t.contents m g)) (hits_in ts m g) (hits_in us m g)) ∙ ap (λ hs. hs ++ hits_in us m g) (sym (joined_is (hit_of t.contents m g) (hits_in ts m g)))

-- what hits the same may take its place
pub hits_exchanged : (ts us before after : List Subtable) (m g : ℕ) → hits_in ts m g ≡ hits_in us m g → hits_in (before ++ (ts ++ after)) m g ≡ hits_in (before ++ (us ++ after)) m g
hits_exchanged ts us before after m g e = simp hits_append (ap (λ hs. hits_in before m g ++ (hs ++ hits_in after m g)) e)

-- what a piece makes of a mark and a base of the whole
abbrev cut : ℕ → ℕ → Option Mark → Option Base → Option Hit
cut a b o s = meet (mapped (renumbered a) (filtered (in_run a b) o)) (mapped (row_part a b) s)

cut_yes : (a b : ℕ) (m : Mark) (s : Option Base) → a ≤ m.class → m.class < b → cut a b (Some m) s ≡ meet (Some m) s
cut_yes a b m (Some s) x y =
    ap (λ o. meet (mapped (renumbered a) o) (Some (row_part a b s))) (cond-true _ _ _ (in_yes a b m x y))
    ∙ ap (λ o. Some record { mark = m.anchor; base = o }) (get_d_part a b m.class s.row x y)
cut_yes a b m None x y = ap (λ o. meet (mapped (renumbered a) o) None) (cond-true _ _ _ (in_yes a b m x y))

cut_no : (a b : ℕ) (m : Mark) (s : Option Base) → (m.class < a) ⊎ (b ≤ m.class) → cut a b (Some m) s ≡ None
cut_no a b m s x = ap (λ o. meet (mapped (renumbered a) o) (mapped (row_part a b) s)) (cond-false _ _ _ (in_no a b m x))

-- two neighbouring runs
cut_both : (o : Option Mark) (s : Option Base) (a p k : ℕ) → a < p → p < k → list_of (cut a p o s) ++ list_of (cut p k o s) ≡ list_of (cut a k o s)
cut_both (Some m) s a p k ap' pk =
    elim (dec_lt m.class a) [
      | yes h ↦ ap₂ (λ x y. list_of x ++ list_of y) (cut_no a p m s (inl h)) (cut_no p k m s (inl (omega arith))) ∙ sym (ap list_of (cut_no a k m s (inl h)))
      | no h ↦
          elim (dec_lt m.class p) [
            | yes i ↦
                ap₂ (λ x y. list_of x ++ list_of y) (cut_yes a p m s (omega arith) i) (cut_no p k m s (inl i)) ∙ append-nil _ ∙ sym (ap list_of (cut_yes a k m s (omega arith) (omega arith)))
            | no i ↦
                ap (λ x. list_of x ++ list_of (cut p k (Some m) s)) (cut_no a p m s (inr (omega arith)))
                ∙ elim (dec_lt m.class k) [
                  | yes j ↦ ap list_of (cut_yes p k m s (omega arith) j ∙ sym (cut_yes a k m s (omega arith) j))
                  | no j ↦ ap list_of (cut_no p k m s (inr (omega arith)) ∙ sym (cut_no a k m s (inr (omega arith))))
                ]
          ]
    ]
cut_both None s a p k ap' pk = refl

hit_piece : (c : Contents) → listed (mark_glyphs c) ≡ true → (m g a b : ℕ) → hit_of (piece c a b) m g ≡ cut a b (mark_in c m) (base_in c g)
hit_piece c up m g a b =
    ap₂ meet (find_map (λ (x : Mark). x.glyph) (renumbered a) (λ _. refl) (filter (in_run a b) c.marks) m
    ∙ ap (mapped (renumbered a)) (find_kept (λ (x : Mark). x.glyph) (in_run a b) c.marks m 0 (and_parts (ascends 0 (mark_glyphs c)) (ltb (length (mark_glyphs c)) 65536) up).0))
    (find_map (λ (x : Base). x.glyph) (row_part a b) (λ _. refl) c.bases g)

pieces_hit : (k : ℕ) (c : Contents) (ps : List ℕ) → Formed k c → Cutting 0 k ps → (m g : ℕ) → hits_of (pieces k c ps) m g ≡ list_of (hit_of c m g)
pieces_hit k c ps ok cuts m g =
    runs_joined (piece c) (λ (x : Contents). list_of (hit_of x m g))
    (λ a p e ap' pe. ap₂ (λ x y. list_of x ++ list_of y) (hit_piece c ok.marks m g a p) (hit_piece c ok.marks m g p e)
    ∙ cut_both (mark_in c m) (base_in c g) a p e ap' pe ∙ sym (ap list_of (hit_piece c ok.marks m g a e)))
    ps 0 k cuts
    ∙ ap (λ (x : Contents). list_of (hit_of x m g)) (whole_piece k c ok)

pub pieces_hit_same : (k : ℕ) (c : Contents) (ps : List ℕ) → Formed k c → Cutting 0 k ps → (t : Subtable) (us before after : List Subtable) → t.contents ≡ c → contents_of us ≡ pieces k c ps
    → (m g : ℕ) → hits_in (before ++ (us ++ after)) m g ≡ hits_in (before ++ t ∷ after) m g
pieces_hit_same k c ps ok cuts t us before after holds are m g =
    hits_exchanged us (t ∷ []) before after m g
    (hits_are us m g ∙ ap (λ cs. hits_of cs m g) are ∙ pieces_hit k c ps ok cuts m g ∙ sym (append-nil _) ∙ ap (λ x. list_of (hit_of x m g) ++ []) (sym holds) ∙ sym (joined_is (hit_of t.contents m g) []))
