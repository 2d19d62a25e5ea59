-- The bytes of one file more.
use Rattle.std.proofs.Common.{◌≡◌, ℕ, ◌+◌, ◌<◌, List, [], ◌∷◌, ◌++◌, length, map, take, get_or, sym, ap, subst, ◌∙◌, arith}
use Rattle.std.specs.Borrow.{Bor}
use Rattle.std.specs.List.{AllZip}
use Rattle.std.specs.Prelude.{Option}
use Rattle.std.proofs.lemmas.List.{length-map, map_push, take_more}
use Rattle.std.proofs.lemmas.List.Elements.{AllZip-push, length_all_zip}
use Rattle.convert_command.specs.Written.{AreBytesOf, AreBytesAt}

pub read_more : {D : Type 0} (bytes_of : List ℕ → Option (Option (List ℕ))) (v : D → List ℕ) (paths : List (Bor (List ℕ))) (i : ℕ) (all next : List D) (one : D)
    → i < length paths → AreBytesAt bytes_of (take i (map (λ path. path.now) paths)) (map v all)
    → AreBytesOf (bytes_of (get_or (map (λ path. path.now) paths) i [])) (v one) → next ≡ all ++ one ∷ []
    → AreBytesAt bytes_of (take (i + 1) (map (λ path. path.now) paths)) (map v next)
read_more bytes_of v paths i all next one lt zip right push =
    let names : List (List ℕ) = map (λ path. path.now) paths in
    let name : List ℕ = get_or names i [] in
    let within : i < length names = omega (arith, lt, length-map paths (λ (path : Bor (List ℕ)). path.now)) in
    let names_are : take (i + 1) names ≡ take i names ++ name ∷ [] = take_more names i [] within in
    let all_are : map v next ≡ map v all ++ v one ∷ [] = ap (map v) push ∙ map_push v all one in
    let R : List ℕ → List ℕ → Type 0 = λ path bytes. AreBytesOf (bytes_of path) bytes in
    let both = AllZip-push R (take i names) (map v all) name (v one) zip right in
    subst (λ ps. AllZip R ps (map v next)) (sym names_are) (subst (λ bs. AllZip R (take i names ++ name ∷ []) bs) (sym all_are) both)

-- There are as many bytes of files as paths.
pub as_many : {D : Type 0} (bytes_of : List ℕ → Option (Option (List ℕ))) (v : D → List ℕ) (paths : List (Bor (List ℕ))) (all : List D)
    → AreBytesAt bytes_of (map (λ path. path.now) paths) (map v all) → length all ≡ length paths
as_many bytes_of v paths all zip =
    let now : Bor (List ℕ) → List ℕ = λ path. path.now in
    let same = length_all_zip (λ path bytes. AreBytesOf (bytes_of path) bytes) (map now paths) (map v all) zip in
    omega (arith, same, length-map paths now, length-map all v)
