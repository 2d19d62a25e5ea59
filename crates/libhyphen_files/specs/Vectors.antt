-- The digits that a node's own pattern gives, as a vector of the last places.
use Rattle.std.specs.Prelude.{◌≡◌, ℕ, ◌+◌, ◌<◌, ◌==◌, if◌then◌else◌, List, [], ◌∷◌, length, Option, None, Some, option_and_then, slice_get, slice_index, slice_index_or, Bool, true, false, IsSome}
use Rattle.std.specs.FinMap as finite
use Rattle.hyphenation_breaks.specs.Ascii.{digit_zero}
use Rattle.hyphenation_breaks.specs.Dictionary.{TextMap}
use Rattle.hyphenation_trie.specs.Steps.{AreSteps}
use Rattle.hyphenation_trie.specs.Trie.{Tree, node_text, entries_of_key}
use Rattle.libhyphen_files.specs.Levels.{pattern_at}
use Rattle.libhyphen_files.specs.Patterns.{Change, Pattern}
use Rattle.libhyphen_files.specs.declared.vectors.NodeVectors.{NodeVectors}

-- The pattern of a node's text, if that is a key. The root has none.
abbrev pub pattern_of_node : Tree Pattern → ℕ → Option Pattern
pattern_of_node tree node =
    if node == 0 then None
    else option_and_then (λ found. slice_get found 0) (entries_of_key tree (node_text tree node))

-- The digit that a pattern, if there is one, gives to a place of its key: place 0 is before the first byte.
abbrev pub digit_given : Option Pattern → ℕ → ℕ
digit_given None place = digit_zero
digit_given (Some pattern) place = slice_index_or pattern.digits place digit_zero

abbrev pub change_of : Option Pattern → Option Change
change_of None = None
change_of (Some pattern) = pattern.change

-- The pattern of a key with this number of bytes changes no letters, and the vector has its digits, counted from 0. The last
-- lane has that of the place behind the key's end. The lane before it has that of the place one byte before, and so on.
pub record IsVectorOf (pattern : Option Pattern) (bytes : ℕ) (vector : List ℕ) : Type 0 where
  pub no_change : change_of pattern ≡ None
  pub each : (lane place : ℕ) → lane < 16 → place + 15 ≡ lane + bytes
      → digit_given pattern place ≡ digit_zero + slice_index vector lane
  pub before : (lane : ℕ) → lane + bytes < 15 → slice_index vector lane ≡ 0
  pub far : (place : ℕ) → place + 15 < bytes → digit_given pattern place ≡ digit_zero

-- The vector of a node: of its own pattern, or none, which its first lane says.
pub record IsNodeVector (tree : Tree Pattern) (node : ℕ) (vector : List ℕ) : Type 0 where
  pub lanes : length vector ≡ 16
  pub known : slice_index vector 0 < 10
      → IsVectorOf (pattern_of_node tree node) (length (node_text tree node)) vector

-- The number is one of a vector of the node.
pub record IsNumberOf (tree : Tree Pattern) (vectors : List (List ℕ)) (node number : ℕ) : Type 0 where
  pub within : number < length vectors
  pub vector : IsNodeVector tree node (slice_index_or vectors number [])

-- The vectors of all nodes, by these numbers, which are those of the table of steps.
pub record AreVectorsBy (tree : Tree Pattern) (numbers : List ℕ) (vectors : NodeVectors) : Type 0 where
  pub each : (node : ℕ) → node < length tree.texts
      → IsNumberOf tree vectors.vectors.items node (slice_index numbers node)
  pub steps : AreSteps tree numbers vectors.steps

-- The vectors of all nodes, with a table of steps.
abbrev pub AreVectors : Tree Pattern → NodeVectors → Type 0
AreVectors tree vectors = (numbers : List ℕ) × AreVectorsBy tree numbers vectors

-- No key begins with the byte.
abbrev pub BeginsNoKey : TextMap (List Pattern) → ℕ → Type 0
BeginsNoKey patterns byte = (rest : List ℕ) → pattern_at patterns (byte ∷ rest) ≡ None

-- A key begins with the byte.
abbrev pub BeginsSomeKey : TextMap (List Pattern) → ℕ → Type 0
BeginsSomeKey patterns byte = (rest : List ℕ) × IsSome (finite.get patterns (byte ∷ rest))

-- The bytes that begin a key are marked, and no others.
pub record AreFirst (patterns : TextMap (List Pattern)) (marks : List Bool) : Type 0 where
  pub bytes : length marks ≡ 256
  pub each : (byte : ℕ) → byte < 256 → slice_index_or marks byte false ≡ false → BeginsNoKey patterns byte
  pub only : (byte : ℕ) → byte < 256 → slice_index_or marks byte false ≡ true → BeginsSomeKey patterns byte
