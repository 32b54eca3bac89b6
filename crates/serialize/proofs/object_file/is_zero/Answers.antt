use Rattle.std.proofs.Common.{◌≡◌, ◌↔◌, ℕ, suc, true, eqb, List, [], ◌∷◌, refl, IsTrue, rules, arith}
use Rattle.std.specs.List.{All}
use Rattle.std.proofs.lemmas.Bool.{and_from, and_parts, eq-eqb, eqb-true}
use Rattle.std.proofs.lemmas.Bool.Decides.{same_from_decides}
use Rattle.std.proofs.lemmas.List.Elements.{All-cons, All-nil}
use Rattle.serialize.specs.Objects.{zeros}
use Rattle.serialize.proofs.object_file.is_zero.Goals as goal

zeros_in : (bs : List ℕ) → All (λ b. b ≡ 0) bs → zeros bs ≡ true
zeros_in [] each = refl
zeros_in (b ∷ bs) each = and_from _ _ (eq-eqb b 0 (each 0 0 (omega arith))) (zeros_in bs (λ k d h. each (suc k) d (omega arith)))

zeros_out : (bs : List ℕ) → zeros bs ≡ true → All (λ b. b ≡ 0) bs
zeros_out [] z = All-nil (λ x. x ≡ 0)
zeros_out (b ∷ bs) z = let p = and_parts (eqb b 0) (zeros bs) z in All-cons (λ x. x ≡ 0) b bs (eqb-true b 0 p.0) (zeros_out bs p.1)

pub returns : goal.returns
returns c =
    let each : IsTrue c.all.result ↔ All (λ b. b ≡ 0) c.args.bytes.now = search rules in
    same_from_decides _ _ each (zeros_out c.args.bytes.now, zeros_in c.args.bytes.now)
