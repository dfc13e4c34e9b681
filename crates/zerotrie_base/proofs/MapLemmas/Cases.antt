-- The pairs of a text: no two of their keys are one to the kind, and case stands between none of them.
use Rattle.std.proofs.Common.{◌≡◌, ℕ, zero, suc, ◌+◌, List, [], ◌∷◌, ◌++◌, refl, sym, ◌∙◌, ap, subst, arith, ◌⊎◌, inl, inr, Bool, true, false, cond, Option, Some, None}
use Rattle.std.specs.Prelude.{⊤, All, Contains, ◌==◌, map}
use Rattle.std.specs.List.{AllByRecursion}
use Rattle.std.specs.Cmp.{IsEquivalence, on_equiv, nat_eq_equiv}
use Rattle.std.specs.Cmp.Lexicographic.{lists_equiv, same_text}
use Rattle.std.proofs.lemmas.Bool.{eq-eqb, ne_eqb}
use Rattle.zerotrie_base.specs.Kind.{Kind, simple_ascii, same_byte, fold_byte}
use Rattle.zerotrie_base.specs.Maps.{Pairs, with_front, with_run, same_key, value_at, common_front, IsCaseConsistent, RepeatsKey}
use Rattle.zerotrie_base.specs.Texts.{Lists, ListEach, NoValueFirst}
use Rattle.zerotrie_base.specs.Texts.Lists.{nothing, value, literal, span, branch}
use Rattle.zerotrie_base.specs.Texts.ListEach.{no_edge, edge}
use Rattle.zerotrie_base.proofs.NumberLemmas.Numbers.{pair_of, extender_one}
use Rattle.zerotrie_base.proofs.MapLemmas.Kinds.{one_fold, two_folds}
use Rattle.zerotrie_base.proofs.NodeLemmas.Tables.{NoneLike, Distinct, table_distinct}
use Rattle.zerotrie_base.proofs.MapLemmas.Values.{chosen_none}
use Rattle.zerotrie_base.proofs.MapLemmas.Spans.{with_run-front, by_fronts}

-- what holds of each pair
pub every_append : (P : List ℕ × ℕ → Type 0) (xs ys : Pairs) → AllByRecursion P xs → AllByRecursion P ys → AllByRecursion P (xs ++ ys)
every_append P [] ys a b = b
every_append P (e ∷ xs) ys a b = (a.0, every_append P xs ys a.1 b)

pub every_more : (P Q : List ℕ × ℕ → Type 0) (xs : Pairs) → ((e : List ℕ × ℕ) → P e → Q e) → AllByRecursion P xs → AllByRecursion Q xs
every_more P Q [] f a = tt
every_more P Q (e ∷ xs) f a = (f e a.0, every_more P Q xs f a.1)

pub every_any : (P : List ℕ × ℕ → Type 0) (xs : Pairs) → ((e : List ℕ × ℕ) → P e) → AllByRecursion P xs
every_any P [] f = tt
every_any P (e ∷ xs) f = (f e, every_any P xs f)

pub every_front : (P Q : List ℕ × ℕ → Type 0) (b : ℕ) (xs : Pairs) → ((e : List ℕ × ℕ) → P e → Q (b ∷ e.0, e.1)) → AllByRecursion P xs → AllByRecursion Q (with_front b xs)
every_front P Q b [] f a = tt
every_front P Q b (e ∷ xs) f a = (f e a.0, every_front P Q b xs f a.1)

pub every_both : (P Q : List ℕ × ℕ → Type 0) (xs : Pairs) → AllByRecursion P xs → AllByRecursion Q xs → AllByRecursion (λ e. P e × Q e) xs
every_both P Q [] a b = tt
every_both P Q (e ∷ xs) a b = ((a.0, b.0), every_both P Q xs a.1 b.1)

pub every_all : (P : List ℕ × ℕ → Type 0) (xs : Pairs) → AllByRecursion P xs → All P xs
every_all P [] a i d h = absurd (omega arith)
every_all P (e ∷ xs) a zero d h = a.0
every_all P (e ∷ xs) a (suc i) d h = every_all P xs a.1 i d (omega arith)

-- keys that are one to the kind
pub same_equiv : (kind : Kind) → IsEquivalence (same_key kind)
same_equiv kind = lists_equiv (on_equiv (fold_byte kind) nat_eq_equiv)

abbrev pub OtherKey : Kind → List ℕ → (List ℕ × ℕ) → Type 0
OtherKey kind key f = same_key kind key f.0 ≡ false

-- no two keys of the pairs are one to the kind
abbrev pub Apart : Kind → Pairs → Type 0
Apart kind [] = Unit {0}
Apart kind (e ∷ pairs) = AllByRecursion (OtherKey kind e.0) pairs × Apart kind pairs

-- what two keys have in common to the kind, they have in common
abbrev pub Agrees : Kind → List ℕ → List ℕ → Type 0
Agrees kind p q = common_front (same_byte kind) p q ≡ common_front (λ a b. a == b) p q

abbrev AgreesAll : Kind → List ℕ → Pairs → Type 0
AgreesAll kind p pairs = AllByRecursion (λ f. Agrees kind p f.0) pairs

abbrev AllAgree : Kind → Pairs → Pairs → Type 0
AllAgree kind ps qs = AllByRecursion (λ e. AgreesAll kind e.0 qs) ps

agrees_front : (kind : Kind) (b : ℕ) (p q : List ℕ) → Agrees kind p q → Agrees kind (b ∷ p) (b ∷ q)
agrees_front kind b p q h = rw (one_fold kind b b refl, eq-eqb b b refl) (ap (λ n. 1 + n) h)

none_agrees : (kind : Kind) (q : List ℕ) → Agrees kind [] q
none_agrees kind q = refl

agrees_none : (kind : Kind) (p : List ℕ) → Agrees kind p []
agrees_none kind [] = refl
agrees_none kind (b ∷ p) = refl

-- bytes with two folds
pub two_bytes : (kind : Kind) (a b : ℕ) → (fold_byte kind a ≡ fold_byte kind b → ⊥) → (same_byte kind a b ≡ false) × ((a == b) ≡ false)
two_bytes kind a b h = (two_folds kind a b h, ne_eqb a b (λ e. h (ap (fold_byte kind) e)))

-- the key begins with a byte of another fold than e
abbrev BeginsOther : Kind → ℕ → List ℕ → Type 0
BeginsOther kind e [] = ⊥
BeginsOther kind e (c ∷ key) = fold_byte kind e ≡ fold_byte kind c → ⊥

each_other : {kind : Kind} {es : List ℕ} {targets : List (List ℕ)} {pairs : Pairs} → ListEach kind es targets pairs → (x : ℕ) → NoneLike kind x es → AllByRecursion (λ f. BeginsOther kind x f.0) pairs
each_other no_edge x none = tt
each_other {kind = kind} (edge {e = e} {pairs = p} {more = m} n text each) x none =
    every_append (λ f. BeginsOther kind x f.0) (with_front e p) m
    (every_front (λ f. ⊤) (λ f. BeginsOther kind x f.0) e p (λ f h. none.0) (every_any (λ f. ⊤) p (λ f. tt)))
    (each_other each x none.1)

other_apart : (kind : Kind) (e : ℕ) (p q : List ℕ) → BeginsOther kind e q → (Agrees kind (e ∷ p) q × Agrees kind q (e ∷ p)) × (same_key kind (e ∷ p) q ≡ false)
other_apart kind e p [] h = absurd h
other_apart kind e p (c ∷ q) h =
    let a = two_bytes kind e c h in
    let b = two_bytes kind c e (λ s. h (sym s)) in
    ((rw (a.0, a.1) refl, rw (b.0, b.1) refl), rw a.0 refl)

-- pairs with one byte in front agree as they did
front_agree : (kind : Kind) (b : ℕ) (ps qs : Pairs) → AllAgree kind ps qs → AllAgree kind (with_front b ps) (with_front b qs)
front_agree kind b ps qs h =
    every_front (λ e. AgreesAll kind e.0 qs) (λ e. AgreesAll kind e.0 (with_front b qs)) b ps
    (λ e a. every_front (λ f. Agrees kind e.0 f.0) (λ f. Agrees kind (b ∷ e.0) f.0) b qs (λ f s. agrees_front kind b e.0 f.0 s) a)
    h

-- and two lists of pairs that agree with each other and with themselves
joined_agree : (kind : Kind) (xs ys : Pairs) → AllAgree kind xs xs → AllAgree kind xs ys → AllAgree kind ys xs → AllAgree kind ys ys → AllAgree kind (xs ++ ys) (xs ++ ys)
joined_agree kind xs ys xx xy yx yy =
    let both = λ (ps : Pairs) (a : AllAgree kind ps xs) (b : AllAgree kind ps ys). every_more (λ e. AgreesAll kind e.0 xs × AgreesAll kind e.0 ys) (λ e. AgreesAll kind e.0 (xs ++ ys)) ps
    (λ e h. every_append (λ f. Agrees kind e.0 f.0) xs ys h.0 h.1) (every_both (λ e. AgreesAll kind e.0 xs) (λ e. AgreesAll kind e.0 ys) ps a b) in
    every_append (λ e. AgreesAll kind e.0 (xs ++ ys)) xs ys (both xs xx xy) (both ys yx yy)

edge_agree : (kind : Kind) (e : ℕ) (p m : Pairs) → AllByRecursion (λ f. BeginsOther kind e f.0) m → AllAgree kind p p → AllAgree kind m m → AllAgree kind (with_front e p ++ m) (with_front e p ++ m)
edge_agree kind e p m other pp mm =
    joined_agree kind (with_front e p) m (front_agree kind e p p pp)
    (every_front (λ x. ⊤) (λ x. AgreesAll kind x.0 m) e p
    (λ x h. every_more (λ f. BeginsOther kind e f.0) (λ f. Agrees kind (e ∷ x.0) f.0) m (λ f a. (other_apart kind e x.0 f.0 a).0.0) other)
    (every_any (λ x. ⊤) p (λ x. tt)))
    (every_more (λ f. BeginsOther kind e f.0) (λ f. AgreesAll kind f.0 (with_front e p)) m
    (λ f a. every_front (λ x. ⊤) (λ x. Agrees kind f.0 x.0) e p (λ x h. (other_apart kind e x.0 f.0 a).0.1) (every_any (λ x. ⊤) p (λ x. tt))) other)
    mm

mutual
  lists_agree : {kind : Kind} {bytes : List ℕ} {pairs : Pairs} → Lists kind bytes pairs → AllAgree kind pairs pairs
  lists_agree nothing = tt
  lists_agree {kind = kind} (value {v = v} {pairs = p} s n text) = (
    every_any (λ f. Agrees kind [] f.0) (([], v) ∷ p) (λ f. none_agrees kind f.0),
    every_more (λ e. AgreesAll kind e.0 p) (λ e. AgreesAll kind e.0 (([], v) ∷ p)) p (λ e a. (agrees_none kind e.0, a)) (lists_agree text),
  )
  lists_agree {kind = kind} (literal {b = b} {pairs = p} low n text) = front_agree kind b p p (lists_agree text)
  lists_agree {kind = kind} (span {pairs = p} run s some high n r f text) = by_fronts (λ ps. AllAgree kind ps ps) run p high (λ b ps low h. front_agree kind b ps ps h) (lists_agree text)
  lists_agree (branch b each) = each_agree each (table_distinct b.is_table)

  each_agree : {kind : Kind} {es : List ℕ} {targets : List (List ℕ)} {pairs : Pairs} → ListEach kind es targets pairs → Distinct kind es → AllAgree kind pairs pairs
  each_agree no_edge apart = tt
  each_agree {kind = kind} (edge {e = e} {pairs = p} {more = m} n text each) apart =
      edge_agree kind e p m (each_other each e apart.0) (lists_agree text) (each_agree each apart.1)

-- a text's pairs are case-consistent
pub lists_consistent : {kind : Kind} {bytes : List ℕ} {pairs : Pairs} → Lists kind bytes pairs → IsCaseConsistent kind pairs
lists_consistent {kind = kind} {pairs = pairs} text =
    every_all (λ e. All (λ f. Agrees kind e.0 f.0) pairs) pairs
    (every_more (λ e. AgreesAll kind e.0 pairs) (λ e. All (λ f. Agrees kind e.0 f.0) pairs) pairs (λ e a. every_all (λ f. Agrees kind e.0 f.0) pairs a) (lists_agree text))

front_apart : (kind : Kind) (b : ℕ) (pairs : Pairs) → Apart kind pairs → Apart kind (with_front b pairs)
front_apart kind b [] h = tt
front_apart kind b (e ∷ pairs) h = (
  every_front (OtherKey kind e.0) (OtherKey kind (b ∷ e.0)) b pairs (λ f a. rw (one_fold kind b b refl) a) h.0,
  front_apart kind b pairs h.1,
)

joined_apart : (kind : Kind) (xs ys : Pairs) → Apart kind xs → Apart kind ys → AllByRecursion (λ e. AllByRecursion (OtherKey kind e.0) ys) xs → Apart kind (xs ++ ys)
joined_apart kind [] ys a b h = b
joined_apart kind (e ∷ xs) ys a b h = (every_append (OtherKey kind e.0) xs ys a.0 h.0, joined_apart kind xs ys a.1 b h.1)

edge_apart : (kind : Kind) (e : ℕ) (p m : Pairs) → AllByRecursion (λ f. BeginsOther kind e f.0) m → Apart kind p → Apart kind m → Apart kind (with_front e p ++ m)
edge_apart kind e p m other pp mm =
    joined_apart kind (with_front e p) m (front_apart kind e p pp) mm
    (every_front (λ x. ⊤) (λ x. AllByRecursion (OtherKey kind x.0) m) e p
    (λ x h. every_more (λ f. BeginsOther kind e f.0) (OtherKey kind (e ∷ x.0)) m (λ f a. (other_apart kind e x.0 f.0 a).1) other)
    (every_any (λ x. ⊤) p (λ x. tt)))

-- no key after a byte is empty
front_some : (kind : Kind) (b : ℕ) (pairs : Pairs) → AllByRecursion (OtherKey kind []) (with_front b pairs)
front_some kind b pairs = every_front (λ x. ⊤) (OtherKey kind []) b pairs (λ x h. refl) (every_any (λ x. ⊤) pairs (λ x. tt))

run_some : (kind : Kind) (run : List ℕ) (pairs : Pairs) → (run ≡ [] → ⊥) → AllByRecursion (OtherKey kind []) (with_run run pairs)
run_some kind [] pairs some = absurd (some refl)
run_some kind (b ∷ run) pairs some = subst (AllByRecursion (OtherKey kind [])) (sym (with_run-front b run pairs)) (front_some kind b (with_run run pairs))

each_keys_some : {kind : Kind} {es : List ℕ} {targets : List (List ℕ)} {pairs : Pairs} → ListEach kind es targets pairs → AllByRecursion (OtherKey kind []) pairs
each_keys_some no_edge = tt
each_keys_some {kind = kind} (edge {e = e} {pairs = p} {more = m} n text each) = every_append (OtherKey kind []) (with_front e p) m (front_some kind e p) (each_keys_some each)

pub keys_some : {kind : Kind} {bytes : List ℕ} {pairs : Pairs} → Lists kind bytes pairs → NoValueFirst bytes → AllByRecursion (OtherKey kind []) pairs
keys_some nothing none = tt
keys_some (value {v = v} {spelling = sp} {rest = r} s n text) none =
    let digit = s.digit_below in
    let one = extender_one s.trail in
    let not_four = subst NoValueFirst (ap (λ x. x ++ r) s.bytes_are) none in
    absurd (not_four (omega arith))
keys_some {kind = kind} (literal {b = b} {pairs = p} low n text) none = front_some kind b p
keys_some {kind = kind} (span {pairs = p} run s some high n r f text) none = run_some kind run p some
keys_some (branch b each) none = each_keys_some each

-- a text lists no key twice, by its kind
mutual
  pub lists_apart : {kind : Kind} {bytes : List ℕ} {pairs : Pairs} → Lists kind bytes pairs → Apart kind pairs
  lists_apart nothing = tt
  lists_apart (value s n text) = (keys_some text n, lists_apart text)
  lists_apart {kind = kind} (literal {b = b} {pairs = p} low n text) = front_apart kind b p (lists_apart text)
  lists_apart {kind = kind} (span {pairs = p} run s some high n r f text) = by_fronts (Apart kind) run p high (λ b ps low h. front_apart kind b ps h) (lists_apart text)
  lists_apart (branch b each) = each_apart each (table_distinct b.is_table)

  each_apart : {kind : Kind} {es : List ℕ} {targets : List (List ℕ)} {pairs : Pairs} → ListEach kind es targets pairs → Distinct kind es → Apart kind pairs
  each_apart no_edge apart = tt
  each_apart {kind = kind} (edge {e = e} {pairs = p} {more = m} n text each) apart =
      edge_apart kind e p m (each_other each e apart.0) (lists_apart text) (each_apart each apart.1)

-- keys that are two to the kind are two
other_key : (kind : Kind) (p q : List ℕ) → same_key kind p q ≡ false → p ≡ q → ⊥
other_key kind p q h e =
    let same : same_key kind p q ≡ true = subst (λ k. same_key kind p k ≡ true) e ((same_equiv kind).refl p) in
    absurd (cc)

no_key_in : (kind : Kind) (key : List ℕ) (pairs : Pairs) → AllByRecursion (OtherKey kind key) pairs → Contains (map {B = List ℕ} (λ f. f.0) pairs) key → ⊥
no_key_in kind key [] h c = let below = c.1 in absurd (omega arith)
no_key_in kind key (e ∷ pairs) h (zero, below, is) = other_key kind key e.0 h.0 (sym is)
no_key_in kind key (e ∷ pairs) h (suc i, below, is) = no_key_in kind key pairs h.1 (i, omega arith, is)

pub apart_distinct : (kind : Kind) (pairs : Pairs) → Apart kind pairs → RepeatsKey pairs → ⊥
apart_distinct kind [] h r = r
apart_distinct kind (e ∷ pairs) h (inl here) = no_key_in kind e.0 pairs h.0 here
apart_distinct kind (e ∷ pairs) h (inr later) = apart_distinct kind pairs h.1 later

-- each pair is found by its key
apart_found : (kind : Kind) (pairs : Pairs) → Apart kind pairs → AllByRecursion (λ f. value_at kind pairs f.0 ≡ Some f.1) pairs
apart_found kind [] h = tt
apart_found kind (e ∷ pairs) h = (
  rw ((same_equiv kind).refl e.0) refl,
  every_more (λ f. OtherKey kind e.0 f × (value_at kind pairs f.0 ≡ Some f.1)) (λ f. value_at kind (e ∷ pairs) f.0 ≡ Some f.1) pairs
      (λ f a. rw a.0 a.1) (every_both (OtherKey kind e.0) (λ f. value_at kind pairs f.0 ≡ Some f.1) pairs h.0 (apart_found kind pairs h.1)),
)

pub lists_found : {kind : Kind} {bytes : List ℕ} {pairs : Pairs} → Lists kind bytes pairs → AllByRecursion (λ f. value_at kind pairs f.0 ≡ Some f.1) pairs
lists_found {kind = kind} {pairs = pairs} text = apart_found kind pairs (lists_apart text)

-- a test that does not pass fails
none_if : (b : Bool) → (b ≡ true → ⊥) → b ≡ false
none_if true h = absurd (h refl)
none_if false h = refl

chosen_value : (b : Bool) (v w : ℕ) (x : Option ℕ) → cond b (Some v) x ≡ Some w → ((b ≡ true) × (v ≡ w)) ⊎ ((b ≡ false) × (x ≡ Some w))
chosen_value true v w x e = inl (refl, pair_of v w e)
chosen_value false v w x e = inr (refl, e)

no_both : (b : Bool) → b ≡ true → b ≡ false → ⊥
no_both b t f = cc

-- a pair of the list whose key is this one to the kind
record KeyOf (kind : Kind) (pairs : Pairs) (key : List ℕ) (v : ℕ) : Type 0 where
  own : List ℕ
  found : value_at simple_ascii pairs own ≡ Some v
  same : same_key kind own key ≡ true

key_of : (kind : Kind) (pairs : Pairs) (key : List ℕ) (v : ℕ) → value_at kind pairs key ≡ Some v → KeyOf kind pairs key v
key_of kind [] key v h = absurd (cc)
key_of kind (e ∷ pairs) key v h = elim (chosen_value (same_key kind e.0 key) e.1 v (value_at kind pairs key) h) [
  | inl here ↦ record { own = e.0; found = rw ((same_equiv simple_ascii).refl e.0) (ap (λ x. Some x) here.1); same = here.0 }
  | inr later ↦
      let k = key_of kind pairs key v later.1 in
      let other : same_key simple_ascii e.0 k.own ≡ false = none_if (same_key simple_ascii e.0 k.own) (λ same. no_both (same_key kind e.0 key) (subst (λ p. same_key kind p key ≡ true) (sym (same_text e.0 k.own (sym same))) k.same) later.0) in
      record { own = k.own; found = rw other k.found; same = k.same }
]

other_found : (kind : Kind) (key own : List ℕ) (v : ℕ) (pairs : Pairs) → AllByRecursion (OtherKey kind key) pairs → value_at simple_ascii pairs own ≡ Some v → same_key kind key own ≡ false
other_found kind key own v [] a h = absurd (cc)
other_found kind key own v (e ∷ pairs) a h = elim (chosen_value (same_key simple_ascii e.0 own) e.1 v (value_at simple_ascii pairs own) h) [
  | inl here ↦ subst (λ p. same_key kind key p ≡ false) (same_text e.0 own (sym here.0)) a.0
  | inr later ↦ other_found kind key own v pairs a.1 later.1
]

-- it is the only one, if no two keys are one to the kind
only_key : (kind : Kind) (pairs : Pairs) (own key : List ℕ) (v : ℕ) → Apart kind pairs → value_at simple_ascii pairs own ≡ Some v → same_key kind own key ≡ true → value_at kind pairs key ≡ Some v
only_key kind [] own key v a h same = absurd (cc)
only_key kind (e ∷ pairs) own key v a h same = elim (chosen_value (same_key simple_ascii e.0 own) e.1 v (value_at simple_ascii pairs own) h) [
  | inl here ↦
      let is : same_key kind e.0 key ≡ true = subst (λ p. same_key kind p key ≡ true) (sym (same_text e.0 own (sym here.0))) same in
      rw is (ap (λ x. Some x) here.1)
  | inr later ↦
      let laws = same_equiv kind in
      let other : same_key kind e.0 key ≡ false = laws.symm e.0 key ∙ sym (laws.congr own key e.0 same) ∙ laws.symm own e.0 ∙ other_found kind e.0 own v pairs a.0 later.1 in
      rw other (only_key kind pairs own key v a.1 later.1 same)
]

not_missed : (kind : Kind) (pairs : Pairs) (own key : List ℕ) (v : ℕ) → value_at simple_ascii pairs own ≡ Some v → same_key kind own key ≡ true → value_at kind pairs key ≡ None → ⊥
not_missed kind [] own key v h same none = cc
not_missed kind (e ∷ pairs) own key v h same none =
    let parts = chosen_none (same_key kind e.0 key) e.1 (value_at kind pairs key) none in
    elim (chosen_value (same_key simple_ascii e.0 own) e.1 v (value_at simple_ascii pairs own) h) [
      | inl here ↦ no_both (same_key kind e.0 key) (subst (λ p. same_key kind p key ≡ true) (sym (same_text e.0 own (sym here.0))) same) parts.0
      | inr later ↦ not_missed kind pairs own key v later.1 same parts.1
    ]

none_too : (kind : Kind) (p q : Pairs) (key : List ℕ) (o : Option ℕ) → ((k : List ℕ) → value_at simple_ascii q k ≡ value_at simple_ascii p k) → value_at kind q key ≡ None → value_at kind p key ≡ o → None ≡ o
none_too kind p q key None same none is = refl
none_too kind p q key (Some v) same none is =
    let k = key_of kind p key v is in
    absurd (not_missed kind q k.own key v (same k.own ∙ k.found) k.same none)

some_too : (kind : Kind) (p q : Pairs) (key : List ℕ) (o : Option ℕ) → Apart kind p → ((k : List ℕ) → value_at simple_ascii q k ≡ value_at simple_ascii p k) → value_at kind q key ≡ o → value_at kind q key ≡ value_at kind p key
some_too kind p q key None a same is = is ∙ none_too kind p q key (value_at kind p key) same is refl
some_too kind p q key (Some v) a same is =
    let k = key_of kind q key v is in
    is ∙ sym (only_key kind p k.own key v a (sym (same k.own) ∙ k.found) k.same)

-- pairs that answer alike by bytes answer alike, if no two keys of one list are one to the kind
pub same_answers : (kind : Kind) (p q : Pairs) (key : List ℕ) → Apart kind p → ((k : List ℕ) → value_at simple_ascii q k ≡ value_at simple_ascii p k) → value_at kind q key ≡ value_at kind p key
same_answers kind p q key a same = some_too kind p q key (value_at kind q key) a same refl

-- keys that are one to the kind get the same answer
pub value_at-same : (kind : Kind) (pairs : Pairs) (k l : List ℕ) → same_key kind k l ≡ true → value_at kind pairs k ≡ value_at kind pairs l
value_at-same kind [] k l same = refl
value_at-same kind (e ∷ pairs) k l same =
    let laws = same_equiv kind in
    let test : same_key kind e.0 k ≡ same_key kind e.0 l = laws.symm e.0 k ∙ laws.congr k l e.0 same ∙ laws.symm l e.0 in
    ap (λ b. cond b (Some e.1) (value_at kind pairs k)) test ∙ ap (λ o. cond (same_key kind e.0 l) (Some e.1) o) (value_at-same kind pairs k l same)
