-- What options ask for, and how they are misused.
use Rattle.std.proofs.Common.{◌≡◌, ◌∙◌, ℕ, List, Option, Some, None, false, ap, inl, inr, refl, subst, sym}
use Rattle.std.specs.Prelude.{Result, Ok, Err, IfErr, IsErrAnd, is_none, unwrap_or}
use Rattle.std.specs.Borrow.{Bor}
use Rattle.zerotrie_queries.specs.code.Texts.{usual_name}
use Rattle.zerotrie_queries.specs.declared.code.Language.{Language}
use Rattle.zerotrie_queries.specs.declared.question.Sought.{Sought}
use Rattle.zerotrie_words.specs.Options.{text_of}
use Rattle.zerotrie_words.specs.Questions.{IsTaken, name_of}
use Rattle.zerotrie_words.specs.Searches.{IsSoughtBy, SeeksNothing}
use Rattle.zerotrie_words.specs.declared.misuse.Misuse.{Misuse}
use Rattle.zerotrie_words.specs.declared.options.CodeOptions.{CodeOptions}
use Rattle.zerotrie_words.specs.declared.options.SearchOptions.{SearchOptions}

-- if a word is sought by, something is sought
pub sought_some : (o : SearchOptions) (sought : Option Sought) → IsSoughtBy o sought → is_none sought ≡ false → SeeksNothing o → ⊥
sought_some o None h is nothing = absurd (cc)
sought_some o (Some s) h is nothing = elim h.0 [
  | inl glob ↦ absurd (let a = glob.0.0 in let b = nothing.0 in cc)
  | inr (inl fuzzy) ↦ absurd (let a = fuzzy.0.1 in let b = nothing.1 in cc)
  | inr (inr subsequence) ↦ absurd (let a = subsequence.0.2 in let b = nothing.2 in cc)
]

-- what a `?` returns is what it got
pub passed_on : {X : Type 0} (r : Result X Misuse) (why : Misuse) (Is : Misuse → Type 0) → IsErrAnd r (λ e. e ≡ why) → Is why → IfErr r Is
passed_on (Ok x) why Is same is = absurd same
passed_on (Err e) why Is same is = subst Is (sym same) is

-- a word, or another if it is not there
pub text_or : (word : Option (Bor (List ℕ))) (other : Bor (List ℕ)) → (unwrap_or word other).now ≡ unwrap_or (text_of word) other.now
text_or None other = refl
text_or (Some w) other = refl

pub name_is : (o : CodeOptions) (language : Language) (name usual : Bor (List ℕ)) → name ≡ unwrap_or o.name usual → usual.now ≡ usual_name language
    → name.now ≡ name_of o language
name_is o language name usual same is = ap (λ (b : Bor (List ℕ)). b.now) same ∙ (text_or o.name usual ∙ ap (λ (n : List ℕ). unwrap_or (text_of o.name) n) is)

pub taken_name : (o : CodeOptions) (language : Language) (name : Bor (List ℕ)) (why : Misuse) → name.now ≡ name_of o language
    → IsTaken language name.now why → IsTaken language (name_of o language) why
taken_name o language name why same is = subst (λ (n : List ℕ). IsTaken language n why) same is
