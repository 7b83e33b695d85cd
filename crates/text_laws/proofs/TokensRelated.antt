-- The tokens that are read from a text are exactly those that it has.
use Rattle.std.proofs.Common.{◌≡◌, ℕ, true, List, [], length, refl, arith, sym, ◌∙◌, Ok}
use Rattle.std.specs.Prelude.{◌↔◌}
use Rattle.jasmin_text.specs.declared.token.Token.{Token}
use Rattle.jasmin_text.specs.Texts.{tokens_of}
use Rattle.jasmin_text.proofs.Slices.{slices}
use Rattle.text_laws.specs.Tokens.{AreTokens}
use Rattle.text_laws.proofs.TokensAgain.{read-again}
use Rattle.text_laws.proofs.TokensFound.{finds-all}

pub related : (text : List ℕ) (tokens : List Token) → tokens_of text ≡ Ok tokens → AreTokens text tokens
unfolding tokens_of
related text tokens e = finds-all (length text) text [] text true tokens (omega arith) refl refl e (slices text tokens e)

read : (text : List ℕ) (tokens : List Token) → AreTokens text tokens → tokens_of text ≡ Ok tokens
unfolding tokens_of
read text tokens h = read-again [] text tokens h

pub exactly : (text : List ℕ) (tokens : List Token) → (tokens_of text ≡ Ok tokens) ↔ AreTokens text tokens
exactly text tokens = (related text tokens, read text tokens)

pub at-most-one : (text : List ℕ) (tokens others : List Token) → AreTokens text tokens → AreTokens text others → tokens ≡ others
at-most-one text tokens others h i = let same : Ok tokens ≡ Ok others = sym (read text tokens h) ∙ read text others i in cc

pub none-of-nothing : (text : List ℕ) → AreTokens text [] ↔ (text ≡ [])
none-of-nothing text = ((λ h. h.0), (λ e. (e, refl)))
