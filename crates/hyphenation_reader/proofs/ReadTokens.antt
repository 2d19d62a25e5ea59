-- One pass over tokens finds the contents that the definitions give them.
use Rattle.std.proofs.Common.{◌≡◌, ◌∙◌, ℕ, ◌+◌, ◌-◌, Bool, true, false, cond, not, ◌&&◌, ◌||◌, eqb, nat_lt, List, [], ◌∷◌, ◌++◌, length, take, drop, map, Option, Some, None, refl, sym, ap, arith, append_assoc, length-append, is_some}
use Rattle.std.specs.Prelude.{fold}
use Rattle.std.specs.Option.{option_map, option_and_then}
use Rattle.std.specs.List.{list_all}
use Rattle.std.proofs.lemmas.List.{append-nil}
use Rattle.std.proofs.lemmas.Grind.{fold-append}
use Rattle.std.proofs.lemmas.Bool.Decides.{nat_tests}
use Rattle.std.proofs.lemmas.Bool.{or_left}
use Rattle.hyphenation_grammar.specs.Lines.{is_number, number}
use Rattle.hyphenation_grammar.specs.Tokens.{elements_from, step_at, pattern_bytes, text_spelt, key_of, values_from, two_values, is_readable, parts_of}
use Rattle.hyphenation_grammar.specs.Parsed.{ReadPattern, nothing_read, is_bad, with_element, with_step, with_spelt, read_pattern, parse_parts, parse_change_token, token_with, sound_change, part_at}
use Rattle.hyphenation_reader.specs.Private.Parsed.{ReadLater, no_later, with_token, read_later, first_token, both, pattern_parts, exception_parts}
use Rattle.hyphenation_breaks.specs.Break.{Change}
use Rattle.hyphenation_grammar.specs.declared.tokens.LaterToken.{LaterToken}
use Rattle.hyphenation_grammar.specs.declared.tokens.LaterToken.TheVariants.{NoNumber, Sound}
use Rattle.hyphenation_grammar.specs.declared.form.Version.{Version}
use Rattle.hyphenation_grammar.specs.declared.tokens.EscapedByte.{EscapedByte}
use Rattle.hyphenation_grammar.specs.declared.tokens.PatternElement.{PatternElement}
use Rattle.hyphenation_grammar.specs.declared.tokens.PatternElement.TheVariants.{Letter, Value}

-- what marks add to what was read
pub record Reads (r : ReadPattern) (ms : List PatternElement) : Type 0 where
  pub key : (fold with_element r ms).key ≡ r.key ++ key_of ms
  pub values : (fold with_element r ms).values ≡ r.values ++ values_from (length r.key) ms
  pub twice : (fold with_element r ms).has_two_values ≡ (r.has_two_values || two_values r.ends_in_value ms)

values_more : (vs : List (ℕ × ℕ)) (at v : ℕ) (ws : List (ℕ × ℕ)) → cond (eqb v 0) vs (vs ++ (at, v) ∷ []) ++ ws ≡ vs ++ cond (eqb v 0) ws ((at, v) ∷ ws)
values_more vs at v ws =
    elim (eqb v 0) as (λ t. cond t vs (vs ++ (at, v) ∷ []) ++ ws ≡ vs ++ cond t ws ((at, v) ∷ ws)) [
      | true ↦ refl
      | false ↦ append_assoc vs ((at, v) ∷ []) ws
    ]

and_true : (b : Bool) → b ≡ (b && true)
and_true true = refl
and_true false = refl

and_false : (b : Bool) → false ≡ (b && false)
and_false true = refl
and_false false = refl

letter_twice : (two after more : Bool) → (two || more) ≡ (two || ((after && false) || more))
letter_twice two true more = refl
letter_twice two false more = refl

value_twice : (two after more : Bool) → ((two || after) || more) ≡ (two || ((after && true) || more))
value_twice true after more = refl
value_twice false true more = refl
value_twice false false more = refl

pub reads : (r : ReadPattern) (ms : List PatternElement) → Reads r ms
reads r [] = record { key = sym (append-nil r.key); values = sym (append-nil r.values); twice = or_false r.has_two_values }
  where
    or_false : (b : Bool) → b ≡ (b || false)
    or_false true = refl
    or_false false = refl
reads r (Letter b ∷ ms) =
    let more = reads (with_element r (Letter b)) ms in
    let long : length (r.key ++ b ∷ []) ≡ length r.key + 1 = length-append r.key (b ∷ []) in
    record {
      key = more.key ∙ append_assoc r.key (b ∷ []) (key_of ms);
      values = more.values ∙ ap (λ (n : ℕ). r.values ++ values_from n ms) long;
      twice = more.twice ∙ letter_twice r.has_two_values r.ends_in_value (two_values false ms);
    }
reads r (Value v ∷ ms) =
    let more = reads (with_element r (Value v)) ms in
    record {
      key = more.key;
      values = more.values ∙ values_more r.values (length r.key) v (values_from (length r.key) ms);
      twice = more.twice ∙ value_twice r.has_two_values r.ends_in_value (two_values true ms);
    }

-- the change of a token is whole and broken between characters, where it has one
abbrev pub is_sound : List (List ℕ) → Bool
is_sound parts = cond (nat_lt 1 (length parts)) (is_some (sound_change parts)) true

-- its parts are the numbers that they have to be
abbrev pub has_numbers : List (List ℕ) → Bool
has_numbers parts = list_all is_number (cond (nat_lt 1 (length parts)) (take (length parts - 1) parts) parts)

-- what it says then
abbrev pub said_by : List (List ℕ) → ℕ × Option Change
said_by parts = (number (part_at parts 0), cond (nat_lt 1 (length parts)) (sound_change parts) None)

-- what later tokens add to what was read
pub record ReadsLater (r l : ReadLater) (ts : List (List ℕ)) : Type 0 where
  pub numbers : l.are_numbers ≡ (r.are_numbers && list_all (λ token. has_numbers (parts_of token)) ts)
  pub sound : l.are_numbers ≡ true → l.are_sound ≡ (r.are_sound && list_all (λ token. is_sound (parts_of token)) ts)
  pub listed : l.are_numbers ≡ true → l.listed ≡ r.listed ++ map (λ token. said_by (parts_of token)) ts

-- one token more
pub record ReadsOne (r : ReadLater) (parts : List (List ℕ)) : Type 0 where
  pub numbers : (with_token r (parse_parts parts)).are_numbers ≡ (r.are_numbers && has_numbers parts)
  pub sound : has_numbers parts ≡ true → (with_token r (parse_parts parts)).are_sound ≡ (r.are_sound && is_sound parts)
  pub listed : has_numbers parts ≡ true → (with_token r (parse_parts parts)).listed ≡ r.listed ++ said_by parts ∷ []

abbrev told_as : Bool → Bool → ℕ → Option Change → LaterToken
told_as two numbers place change = cond two (cond numbers (token_with place change) NoNumber) (cond numbers (Sound place None) NoNumber)

reads_as : (r : ReadLater) (two numbers : Bool) (place : ℕ) (change : Option Change)
    → ((with_token r (told_as two numbers place change)).are_numbers ≡ (r.are_numbers && numbers))
    × (numbers ≡ true → (with_token r (told_as two numbers place change)).are_sound ≡ (r.are_sound && cond two (is_some change) true))
    × (numbers ≡ true → (with_token r (told_as two numbers place change)).listed ≡ r.listed ++ (place, cond two change None) ∷ [])
reads_as r true true place None = (and_true r.are_numbers, λ _. and_false r.are_sound, λ _. refl)
reads_as r true true place (Some c) = (and_true r.are_numbers, λ _. and_true r.are_sound, λ _. refl)
reads_as r true false place change = (and_false r.are_numbers, λ e. absurd cc, λ e. absurd cc)
reads_as r false true place change = (and_true r.are_numbers, λ _. and_true r.are_sound, λ _. refl)
reads_as r false false place change = (and_false r.are_numbers, λ e. absurd cc, λ e. absurd cc)

reads_one : (r : ReadLater) (parts : List (List ℕ)) → ReadsOne r parts
reads_one r parts = by (nat_lt 1 (length parts)) refl
  where
    by : (t : Bool) → nat_lt 1 (length parts) ≡ t → ReadsOne r parts
    by true is =
        let n = list_all is_number (take (length parts - 1) parts) in
        let one = reads_as r true n (number (part_at parts 0)) (sound_change parts) in
        let same : parse_parts parts ≡ parse_change_token parts = ap (λ (t : Bool). cond t (parse_change_token parts) (cond (list_all is_number parts) (Sound (number (part_at parts 0)) None) NoNumber)) is in
        let ns : has_numbers parts ≡ n = ap (λ (t : Bool). list_all is_number (cond t (take (length parts - 1) parts) parts)) is in
        record {
          numbers = ap (λ (t : LaterToken). (with_token r t).are_numbers) same ∙ one.0 ∙ ap (λ (b : Bool). r.are_numbers && b) (sym ns);
          sound = λ e. ap (λ (t : LaterToken). (with_token r t).are_sound) same ∙ one.1 (sym ns ∙ e) ∙ ap (λ (t : Bool). r.are_sound && cond t (is_some (sound_change parts)) true) (sym is);
          listed = λ e. ap (λ (t : LaterToken). (with_token r t).listed) same ∙ one.2 (sym ns ∙ e) ∙ ap (λ (t : Bool). r.listed ++ (number (part_at parts 0), cond t (sound_change parts) None) ∷ []) (sym is);
        }
    by false is =
        let n = list_all is_number parts in
        let one = reads_as r false n (number (part_at parts 0)) (sound_change parts) in
        let same : parse_parts parts ≡ cond n (Sound (number (part_at parts 0)) None) NoNumber = ap (λ (t : Bool). cond t (parse_change_token parts) (cond n (Sound (number (part_at parts 0)) None) NoNumber)) is in
        let ns : has_numbers parts ≡ n = ap (λ (t : Bool). list_all is_number (cond t (take (length parts - 1) parts) parts)) is in
        record {
          numbers = ap (λ (t : LaterToken). (with_token r t).are_numbers) same ∙ one.0 ∙ ap (λ (b : Bool). r.are_numbers && b) (sym ns);
          sound = λ e. ap (λ (t : LaterToken). (with_token r t).are_sound) same ∙ one.1 (sym ns ∙ e) ∙ ap (λ (t : Bool). r.are_sound && cond t (is_some (sound_change parts)) true) (sym is);
          listed = λ e. ap (λ (t : LaterToken). (with_token r t).listed) same ∙ one.2 (sym ns ∙ e) ∙ ap (λ (t : Bool). r.listed ++ (number (part_at parts 0), cond t (sound_change parts) None) ∷ []) (sym is);
        }

and_assoc : (a b c : Bool) → ((a && b) && c) ≡ (a && (b && c))
and_assoc true b c = refl
and_assoc false b c = refl

-- all of the numbers, by those read and the one more
among : (l a n rest : Bool) → l ≡ ((a && n) && rest) → l ≡ true → n ≡ true
among l a true rest e on = refl
among l true false rest e on = absurd cc
among l false false rest e on = absurd cc

pub reads_later : (r l : ReadLater) (ts : List (List ℕ)) → read_later r ts ≡ Some l → ReadsLater r l ts
reads_later r l [] e =
    let same : r ≡ l = cc in
    record {
      numbers = ap (λ (x : ReadLater). x.are_numbers) (sym same) ∙ and_true r.are_numbers;
      sound = λ on. ap (λ (x : ReadLater). x.are_sound) (sym same) ∙ and_true r.are_sound;
      listed = λ on. ap (λ (x : ReadLater). x.listed) (sym same) ∙ sym (append-nil r.listed);
    }
reads_later r l (token ∷ ts) e =
    by (is_readable token) e (λ f. reads_later (with_token r (parse_parts (parts_of token))) l ts f)
  where
    by : (t : Bool) → option_and_then (λ x. read_later (with_token r x) ts) (cond t (Some (parse_parts (parts_of token))) None) ≡ Some l
        → (read_later (with_token r (parse_parts (parts_of token))) ts ≡ Some l → ReadsLater (with_token r (parse_parts (parts_of token))) l ts) → ReadsLater r l (token ∷ ts)
    by true e more =
        let m = more e in
        let one = reads_one r (parts_of token) in
        let rest = list_all (λ u. has_numbers (parts_of u)) ts in
        let all : l.are_numbers ≡ ((r.are_numbers && has_numbers (parts_of token)) && rest) = m.numbers ∙ ap (λ (b : Bool). b && rest) one.numbers in
        record {
          numbers = all ∙ and_assoc r.are_numbers (has_numbers (parts_of token)) rest;
          sound = λ on.
              m.sound on ∙ ap (λ (b : Bool). b && list_all (λ u. is_sound (parts_of u)) ts) (one.sound (among l.are_numbers r.are_numbers (has_numbers (parts_of token)) rest all on))
              ∙ and_assoc r.are_sound (is_sound (parts_of token)) (list_all (λ u. is_sound (parts_of u)) ts);
          listed = λ on.
              m.listed on ∙ ap (λ (bs : List (ℕ × Option Change)). bs ++ map (λ u. said_by (parts_of u)) ts) (one.listed (among l.are_numbers r.are_numbers (has_numbers (parts_of token)) rest all on))
              ∙ append_assoc r.listed (said_by (parts_of token) ∷ []) (map (λ u. said_by (parts_of u)) ts);
        }
    by false e more = absurd cc

-- whether they can be read
pub later_total : (r : ReadLater) (ts : List (List ℕ)) → is_some (read_later r ts) ≡ list_all is_readable ts
later_total r [] = refl
later_total r (token ∷ ts) =
    by (is_readable token) (later_total (with_token r (parse_parts (parts_of token))) ts)
  where
    by : (t : Bool) → is_some (read_later (with_token r (parse_parts (parts_of token))) ts) ≡ list_all is_readable ts → is_some (option_and_then (λ x. read_later (with_token r x) ts) (cond t (Some (parse_parts (parts_of token))) None)) ≡ (t && list_all is_readable ts)
    by true more = more
    by false more = refl

empty_or : (n : ℕ) → eqb n 0 ≡ not (nat_lt 0 n)
empty_or n = grind (arith, nat_tests)

both_total : {X Y : Type 0} (e n : Bool) (x : Option X) (y : Option Y) → e ≡ not n → is_some (cond e None (both x y)) ≡ ((n && is_some x) && is_some y)
both_total true true x y h = absurd cc
both_total false true None y h = refl
both_total false true (Some x) None h = refl
both_total false true (Some x) (Some y) h = refl
both_total true false x y h = refl
both_total false false x y h = absurd cc

some_mapped : {X Y : Type 0} (f : X → Y) (o : Option X) → is_some (option_map f o) ≡ is_some o
some_mapped f None = refl
some_mapped f (Some x) = refl

pub pattern_total : (version : Version) (tokens : List (List ℕ)) → is_some (pattern_parts version tokens) ≡ ((nat_lt 0 (length (first_token tokens)) && is_some (pattern_bytes version (first_token tokens))) && list_all is_readable (drop 1 tokens))
pattern_total version tokens =
    both_total (eqb (length (first_token tokens)) 0) (nat_lt 0 (length (first_token tokens))) (read_pattern version (first_token tokens)) (read_later no_later (drop 1 tokens)) (empty_or (length (first_token tokens)))
    ∙ ap (λ (b : Bool). (nat_lt 0 (length (first_token tokens)) && b) && is_some (read_later no_later (drop 1 tokens))) (some_mapped (fold (with_spelt version) nothing_read) (pattern_bytes version (first_token tokens)))
    ∙ ap (λ (b : Bool). (nat_lt 0 (length (first_token tokens)) && is_some (pattern_bytes version (first_token tokens))) && b) (later_total no_later (drop 1 tokens))

pub exception_total : (tokens : List (List ℕ)) → is_some (exception_parts tokens) ≡ ((nat_lt 0 (length (first_token tokens)) && is_some (text_spelt (first_token tokens))) && list_all is_readable (drop 1 tokens))
exception_total tokens =
    both_total (eqb (length (first_token tokens)) 0) (nat_lt 0 (length (first_token tokens))) (text_spelt (first_token tokens)) (read_later no_later (drop 1 tokens)) (empty_or (length (first_token tokens)))
    ∙ ap (λ (b : Bool). (nat_lt 0 (length (first_token tokens)) && is_some (text_spelt (first_token tokens))) && b) (later_total no_later (drop 1 tokens))

-- and which two they are then
pub both_parts : {X Y : Type 0} (e : Bool) (x : Option X) (y : Option Y) (a : X) (b : Y) → cond e None (both x y) ≡ Some (a, b) → (x ≡ Some a) × (y ≡ Some b)
both_parts true x y a b h = absurd cc
both_parts false None y a b h = absurd cc
both_parts false (Some x) None a b h = absurd cc
both_parts {X} {Y} false (Some x) (Some y) a b h = let pair : (x, y) ≡ (a, b) = cc in (ap (λ (p : X × Y). Some p.0) pair, ap (λ (p : X × Y). Some p.1) pair)

pub signs_read : {X Y : Type 0} (f : X → Y) (o : Option X) (y : Y) → option_map f o ≡ Some y → (x : X) × (o ≡ Some x) × (f x ≡ y)
signs_read f None y e = absurd cc
signs_read f (Some x) y e = (x, refl, cc)

-- marks leave alone what is known of braces
pub marks_keep : (r : ReadPattern) (ms : List PatternElement) → (fold with_element r ms).has_bad_value ≡ r.has_bad_value
marks_keep r [] = refl
marks_keep r (Letter b ∷ ms) = marks_keep (with_element r (Letter b)) ms
marks_keep r (Value v ∷ ms) = marks_keep (with_element r (Value v)) ms

abbrev closed : ReadPattern → ReadPattern
closed r = record r { digits = None }

marks_beside : (r : ReadPattern) (digits : Option (List ℕ)) (ms : List PatternElement) → closed (fold with_element (record r { digits = digits }) ms) ≡ closed (fold with_element r ms)
marks_beside r digits [] = refl
marks_beside r digits (Letter b ∷ ms) = marks_beside (with_element r (Letter b)) digits ms
marks_beside r digits (Value v ∷ ms) = marks_beside (with_element r (Value v)) digits ms

-- what is bad stays so
bad_stays : (version : Version) (r : ReadPattern) (ss : List EscapedByte) → r.has_bad_value ≡ true → (fold (with_spelt version) r ss).has_bad_value ≡ true
bad_stays version r [] bad = bad
bad_stays version r (s ∷ ss) bad = bad_stays version (with_spelt version r s) ss (by (step_at version r.digits s))
  where
    by : (o : Option (Option (List ℕ) × List PatternElement)) → (with_step r o).has_bad_value ≡ true
    by None = refl
    by (Some step) = marks_keep r step.1 ∙ bad

-- what one pass over signs finds: their marks, or that a value is bad
abbrev pub Finds : ReadPattern → ReadPattern → Option (List PatternElement) → Type 0
Finds r found None = is_bad found ≡ true
Finds r found (Some ms) = found ≡ closed (fold with_element r ms)

pub finds : (version : Version) (r : ReadPattern) (ss : List EscapedByte) → Finds r (fold (with_spelt version) r ss) (elements_from version r.digits ss)
finds version r [] = by r.digits refl
  where
    or_true : (a : Bool) → (a || true) ≡ true
    or_true true = refl
    or_true false = refl

    by : (o : Option (List ℕ)) → r.digits ≡ o → Finds r r (elements_from version o [])
    by None is = λ i. record r { digits = is i }
    by (Some digits) is = ap (λ (o : Option (List ℕ)). r.has_bad_value || is_some o) is ∙ or_true r.has_bad_value
finds version r (s ∷ ss) = by (step_at version r.digits s) (λ x. finds version (with_step r x) ss)
  where
    more : (step : Option (List ℕ) × List PatternElement) (found : ReadPattern) (o : Option (List PatternElement)) → Finds (with_step r (Some step)) found o → Finds r found (option_map (λ marks. step.1 ++ marks) o)
    more step found None h = h
    more step found (Some ms) h =
        h ∙ marks_beside (fold with_element r step.1) step.0 ms ∙ ap closed (sym (fold-append with_element r step.1 ms))

    by : (o : Option (Option (List ℕ) × List PatternElement)) → ((x : Option (Option (List ℕ) × List PatternElement)) → Finds (with_step r x) (fold (with_spelt version) (with_step r x) ss) (elements_from version (with_step r x).digits ss))
        → Finds r (fold (with_spelt version) (with_step r o) ss) (option_and_then (λ step. option_map (λ marks. step.1 ++ marks) (elements_from version step.0 ss)) o)
    by None each = or_left (fold (with_spelt version) (with_step r None) ss).has_bad_value (is_some (fold (with_spelt version) (with_step r None) ss).digits) (bad_stays version (with_step r None) ss refl)
    by (Some step) each = more step (fold (with_spelt version) (with_step r (Some step)) ss) (elements_from version step.0 ss) (each (Some step))
