-- The clauses of clap speak of the program: it is simple and free, wherever its words lie.
use Rattle.std.proofs.Common.{◌≡◌, ◌∙◌, ◌+◌, ◌++◌, ◌∷◌, ◌&&◌, ◌||◌, ℕ, List, [], Bool, true, false, None, ap, ap₂, cond, map, not, refl, sym}
use Rattle.std.specs.Prelude.{if◌then◌else◌, is_some}
use Rattle.std.specs.List.{count_by, list_all, list_any}
use Rattle.std.proofs.lemmas.List.{map-append}
use Rattle.std.proofs.lemmas.List.Folds.{fold-map, list_all-map}
use Rattle.clap.specs.Simple.{App, Shape, built_leaf, filled, filled_from, help_rule, help_shape, index_after, inherited, is_in_order, is_ready_leaf, is_simple, is_simple_leaf, marked_built, version_rule, with_filled_rules, with_help_flag, with_index, with_leaf_noted, with_subcommand, with_version_flag}
use Rattle.clap.specs.Walk.{Rule, is_early_multiple}
use Rattle.clap.proofs.WalkLemmas.{list_any-map}
use Rattle.clap.specs.Faults.{has_free_rules, is_simple_and_free}
use Rattle.zerotrie_words.specs.Arguments.{app_by, bare_program, program_by, with_parts, with_rows}
use Rattle.zerotrie_words.specs.Program.{IsProgram, app_wherever, combinations, listings, look_ups, program, reports, rule_wherever, services, shape_by, shape_wherever}
use Rattle.zerotrie_words.specs.declared.arguments.Subcommand.{Subcommand}

-- a rule but for its words
abbrev bare : Rule → Rule
bare rule = record rule { parser = None }

abbrev AreAlike : List Rule → List Rule → Type 0
AreAlike xs ys = map bare xs ≡ map bare ys

are_alike : (rules : List Rule) → AreAlike (map rule_wherever rules) rules
are_alike [] = refl
are_alike (rule ∷ rules) = ap (λ (rest : List Rule). bare rule ∷ rest) (are_alike rules)

alike_with : (without : Bool) (rule : Rule) (xs ys : List Rule) → AreAlike xs ys
    → AreAlike (if without then xs else xs ++ rule ∷ []) (if without then ys else ys ++ rule ∷ [])
alike_with true rule xs ys same = same
alike_with false rule xs ys same = map-append bare xs (rule ∷ []) ∙ (ap (λ (l : List Rule). l ++ bare rule ∷ []) same ∙ sym (map-append bare ys (rule ∷ [])))

filled_bare : (i : ℕ) (rules : List Rule) → AreAlike (filled_from i (map bare rules)) (filled_from i rules)
filled_bare i [] = refl
filled_bare i (rule ∷ rules) = ap (λ (rest : List Rule). bare (with_index i (filled rule)) ∷ rest) (filled_bare (index_after i (filled rule)) rules)

alike_filled : (xs ys : List Rule) → AreAlike xs ys → AreAlike (filled_from 1 xs) (filled_from 1 ys)
alike_filled xs ys same = sym (filled_bare 1 xs) ∙ (ap (λ (l : List Rule). map bare (filled_from 1 l)) same ∙ filled_bare 1 ys)

-- a test that does not read which words a rule takes
abbrev IsBlind : (Shape → Bool) → Type 0
IsBlind test = (s : Shape) → test (record s { rules = map bare s.rules }) ≡ test s

count_bare : (rules : List Rule) → count_by (λ (a : Rule). is_some a.index) (map bare rules) ≡ count_by (λ (a : Rule). is_some a.index) rules
count_bare rules = fold-map (λ (n : ℕ) (a : Rule). n + cond (is_some a.index) 1 0) bare 0 rules

in_order_bare : (rules : List Rule) → is_in_order (map bare rules) ≡ is_in_order rules
in_order_bare rules = ap (λ (n : ℕ). not (list_any (is_early_multiple n) (map bare rules))) (count_bare rules)
    ∙ ap not (sym (list_any-map (is_early_multiple (count_by (λ (a : Rule). is_some a.index) rules)) bare rules))

simple_is_blind : IsBlind is_simple_leaf
simple_is_blind s = ap (λ (b : Bool). s.is_leaf && (s.is_plain && b)) (list_all-map (λ (a : Rule). a.is_simple) bare s.rules)

ready_is_blind : IsBlind is_ready_leaf
ready_is_blind s = ap₂ (λ (a b : Bool). s.is_leaf && ((s.is_plain && a) && b)) (list_all-map (λ (a : Rule). a.is_simple) bare s.rules) (in_order_bare s.rules)

free_is_blind : IsBlind has_free_rules
free_is_blind s = list_all-map (λ (a : Rule). a.is_free) bare s.rules

-- such a test is the same of rules that are alike
alike_test : (test : Shape → Bool) → IsBlind test → (s : Shape) (xs ys : List Rule) → AreAlike xs ys → test (record s { rules = xs }) ≡ test (record s { rules = ys })
alike_test test blind s xs ys same =
    sym (blind (record s { rules = xs })) ∙ (ap (λ (l : List Rule). test (record s { rules = l })) same ∙ blind (record s { rules = ys }))

either_test : (test : Shape → Bool) (b : Bool) (x y u v : Shape) → test x ≡ test u → test y ≡ test v → test (if b then x else y) ≡ test (if b then u else v)
either_test test true x y u v first second = first
either_test test false x y u v first second = second

-- what building makes of a command
abbrev grown : Shape → Shape
grown s = with_version_flag (with_help_flag (with_leaf_noted (marked_built s)))

leaf_test : (test : Shape → Bool) → IsBlind test → (above s : Shape) → test (built_leaf (inherited above (shape_wherever s))) ≡ test (built_leaf (inherited above s))
leaf_test test blind above s =
    let new : Shape = inherited above s in
    let old : Shape = inherited above (shape_wherever s) in
    let same : AreAlike old.rules new.rules = are_alike s.rules in
    let helped = alike_with new.disable_help_flag help_rule old.rules new.rules same in
    let both = alike_with (new.disable_version_flag || (not new.has_version && not new.has_long_version)) version_rule (with_help_flag old).rules (with_help_flag new).rules helped in
    either_test test s.is_built old (with_filled_rules (grown old)) new (with_filled_rules (grown new))
    (alike_test test blind new old.rules new.rules same)
    (alike_test test blind (with_filled_rules (grown new)) (filled_from 1 (grown old).rules) (filled_from 1 (grown new).rules)
    (alike_filled (grown old).rules (grown new).rules both))

leaves_test : (test : Shape → Bool) → IsBlind test → (above : Shape) (subs : List Shape)
    → list_all test (map built_leaf (map (inherited above) (map shape_wherever subs) ++ help_shape ∷ [])) ≡ list_all test (map built_leaf (map (inherited above) subs ++ help_shape ∷ []))
leaves_test test blind above [] = refl
leaves_test test blind above (s ∷ subs) = ap₂ (λ (a b : Bool). a && b) (leaf_test test blind above s) (leaves_test test blind above subs)

all_test : (test : Shape → Bool) → IsBlind test → (subs : List Shape) → list_all test (map shape_wherever subs) ≡ list_all test subs
all_test test blind [] = refl
all_test test blind (s ∷ subs) = ap₂ (λ (a b : Bool). a && b) (alike_test test blind s (shape_wherever s).rules s.rules (are_alike s.rules)) (all_test test blind subs)

-- a program with these commands
abbrev over : List Shape → App
over subs = record { top = program.top; subs = subs }

-- building puts the same in front of the commands of each
over_test : (subs : List Shape) → is_simple_and_free (over (map shape_wherever subs)) ≡ is_simple_and_free (over subs)
over_test subs =
    let above : Shape = with_leaf_noted (marked_built program.top) in
    ap₂ (λ (a b : Bool). a && b)
    (ap₂ (λ (a b : Bool). a && b) (all_test is_simple_leaf simple_is_blind subs) (leaves_test is_ready_leaf ready_is_blind above subs))
    (leaves_test has_free_rules free_is_blind above subs)

program_simple : is_simple_and_free program ≡ true
program_simple = refl

of_over : (subs : List Shape) → map shape_wherever subs ≡ program.subs → is_simple_and_free (over subs) ≡ true
of_over subs is = sym (over_test subs) ∙ (ap (λ (l : List Shape). is_simple_and_free (over l)) is ∙ program_simple)

pub simple_and_free : (app : App) → IsProgram app → is_simple_and_free app ≡ true
unfolding IsProgram
simple_and_free app is =
    let top : app.top ≡ program.top = ap (λ (a : App). a.top) is in
    ap (λ (t : Shape). is_simple_and_free (record { top = t; subs = app.subs })) top ∙ of_over app.subs (ap (λ (a : App). a.subs) is)

both : (a b : Bool) → (a && b) ≡ true → a ≡ true
both true b is = refl
both false b is = is

pub simple_program : (app : App) → IsProgram app → is_simple app ≡ true
simple_program app is = both (is_simple app) _ (simple_and_free app is)

pub is_program : IsProgram program
unfolding IsProgram
is_program = refl

-- the program by rows of commands

abbrev with_shapes : App → List Shape → App
with_shapes app [] = app
with_shapes app (s ∷ shapes) = with_shapes (with_subcommand app s) shapes

abbrev with_shapes_of : App → List (List Shape) → App
with_shapes_of app [] = app
with_shapes_of app (shapes ∷ more) = with_shapes_of (with_shapes app shapes) more

rows_wherever : (app : App) (rows : List Subcommand) → app_wherever (with_rows app rows) ≡ with_shapes (app_wherever app) (map shape_by rows)
rows_wherever app [] = refl
rows_wherever app (row ∷ rows) =
    let own : Shape = (app_by row).top in
    let added : app_wherever (with_subcommand app own) ≡ with_subcommand (app_wherever app) (shape_by row) =
    ap (λ (l : List Shape). record { top = record app.top { is_leaf = false }; subs = l }) (map-append shape_wherever app.subs (own ∷ [])) in
    rows_wherever (with_subcommand app own) rows ∙ ap (λ (a : App). with_shapes a (map shape_by rows)) added

parts_wherever : (app : App) (parts : List (List Subcommand)) → app_wherever (with_parts app parts) ≡ with_shapes_of (app_wherever app) (map (map shape_by) parts)
parts_wherever app [] = refl
parts_wherever app (rows ∷ parts) =
    parts_wherever (with_rows app rows) parts ∙ ap (λ (a : App). with_shapes_of a (map (map shape_by) parts)) (rows_wherever app rows)

one_more : (x y : List Shape) (xs ys : List (List Shape)) → x ≡ y → xs ≡ ys → x ∷ xs ≡ y ∷ ys
one_more x y xs ys first others = ap₂ (λ (z : List Shape) (zs : List (List Shape)). z ∷ zs) first others

pub program_of : (a b c d e : List Subcommand) → map shape_by a ≡ look_ups → map shape_by b ≡ listings → map shape_by c ≡ reports → map shape_by d ≡ combinations
    → map shape_by e ≡ services → IsProgram (program_by (a ∷ b ∷ c ∷ d ∷ e ∷ []))
unfolding IsProgram program_by
program_of a b c d e is_a is_b is_c is_d is_e =
    let all : map (map shape_by) (a ∷ b ∷ c ∷ d ∷ e ∷ []) ≡ look_ups ∷ listings ∷ reports ∷ combinations ∷ services ∷ [] =
    one_more _ _ _ _ is_a (one_more _ _ _ _ is_b (one_more _ _ _ _ is_c (one_more _ _ _ _ is_d (one_more _ _ [] [] is_e refl)))) in
    parts_wherever bare_program (a ∷ b ∷ c ∷ d ∷ e ∷ []) ∙ ap (λ (l : List (List Shape)). with_shapes_of bare_program l) all
