-- The attributes of a tag.
-- Source: HTML Living Standard, 13.2.5.32 to 13.2.5.39. Values are as they are written: References says how they are read.
use Rattle.std.specs.Prelude.{◌≡◌, ℕ, Bool, true, false, not, ◌&&◌, ◌++◌, List, [], ◌∷◌, map, drop, Option, Some, None, if◌then◌else◌}
use Rattle.std.specs.Option.{unwrap_or}
use Rattle.html_pieces.specs.Bytes.{is_same_in}
use Rattle.html_pieces.specs.declared.bytes.PageForm.{PageForm}
use Rattle.html_pieces.specs.Pieces.{next}
use Rattle.html_pieces.specs.declared.tokenizer.State.{State}
use Rattle.html_pieces.specs.declared.tokenizer.State.TheVariants.{TagOpen, AttributeName, DoubleQuotedValue, SingleQuotedValue, UnquotedValue, TagEnd}
use Rattle.html_pieces.specs.declared.tags.Attribute as declared

-- An attribute: its name and its value.
pub record Attribute : Type 0 where
  pub name : List ℕ
  pub value : List ℕ

-- The same of an attribute as the code holds it.
abbrev pub as_attribute : declared.Attribute → Attribute
as_attribute held = record { name = held.name.now; value = held.value.now }

-- Attributes as the code holds them, the second ones, are the first ones and more.
abbrev pub Appends : List declared.Attribute → List declared.Attribute → List Attribute → Type 0
Appends old new more = map as_attribute new ≡ map as_attribute old ++ more

-- The byte that led to the state belongs to a name.
abbrev pub is_name : State → Bool
is_name AttributeName = true
is_name _ = false

-- It belongs to a value without quotes.
abbrev pub is_unquoted : State → Bool
is_unquoted UnquotedValue = true
is_unquoted _ = false

-- It belongs to a value, or is the quote before one.
abbrev pub is_value : State → Bool
is_value DoubleQuotedValue = true
is_value SingleQuotedValue = true
is_value UnquotedValue = true
is_value _ = false

-- The name after a byte that leads from a state to another: it grows, or another one begins with the byte.
abbrev pub attribute_name_after : State → State → List ℕ → ℕ → List ℕ
attribute_name_after state after name b =
    if is_name after then (if is_name state then name ++ b ∷ [] else b ∷ []) else name

-- The value in the same way: a name begins without one, and the quote that leads to a quoted value is no part of it.
abbrev pub attribute_value_after : State → State → List ℕ → ℕ → List ℕ
attribute_value_after state after value b =
    if is_name after then []
    else if is_value after then (if is_value state then value ++ b ∷ [] else if is_unquoted after then b ∷ [] else [])
    else value

-- The attribute that has been read; none where none has begun.
abbrev pub read : List ℕ → List ℕ → List Attribute
read [] value = []
read (b ∷ bs) value = record { name = b ∷ bs; value = value } ∷ []

-- The attribute that ends where another one begins.
abbrev pub ended : State → State → List ℕ → List ℕ → List Attribute
ended state after name value = if is_name after && not (is_name state) then read name value else []

-- The attributes from a state on, where `name` and `value` are those of the one that has begun.
abbrev pub attributes_from : PageForm → State → List ℕ → List ℕ → List ℕ → List Attribute
attributes_from form state name value [] = read name value
attributes_from form state name value (b ∷ bs) =
    let after = unwrap_or (next form false state [] b) TagEnd in
    ended state after name value
    ++ attributes_from form after (attribute_name_after state after name b) (attribute_value_after state after value b) bs

-- The attributes of a tag, in order.
abbrev pub attributes_of : PageForm → List ℕ → List Attribute
attributes_of form tag = attributes_from form TagOpen [] [] (drop 1 tag)

-- The value of the first attribute of a name; the standard lets later ones of that name go (13.2.5.33).
abbrev pub value_of : PageForm → List ℕ → List Attribute → Option (List ℕ)
value_of form name [] = None
value_of form name (a ∷ attributes) = if is_same_in form a.name name then Some a.value else value_of form name attributes
