-- THE READING BEFORE THERE WERE EDITIONS, which edition 1 keeps: on the lexer's tokens, which are those of before
-- (`edition_one` in quanta_lexer), the answer of the reader that takes each token whole.
-- Assumes nothing.
use Rattle.std.specs.Prelude.{◌≡◌, List, ℕ, ◌/◌}
use Rattle.quanta_token.specs.declared.edition.Edition.TheVariants.{One}
use Rattle.quanta_lexer.specs.Tokens.{lex_all}
use Rattle.quanta_lexer.specs.Tokenizing.{tokenizing, token_words}
use Rattle.quanta_grammar.specs.Productions.{Symbol}
use Rattle.quanta_grammar.specs.Refine.{Answer as OfTokens}
use Rattle.quanta_grammar.specs.Before.{answer_before}
use Rattle.quanta_reading.specs.Reading.{Answer, Reading, parsed, lexed, records_of, tree_words}

abbrev pub grammar_before : Symbol → List ℕ → List ℕ → OfTokens
grammar_before s source table = answer_before s source (lex_all One source table).toks

abbrev pub answering_before : Symbol → List ℕ → List ℕ → ℕ → ℕ → Answer
answering_before s source table tokens tree =
    lexed (tokenizing One source table tokens) (λ n. parsed (tree / 6) n (grammar_before s source table))

unfoldable pub reading_before : Symbol → List ℕ → List ℕ → ℕ → ℕ → Reading
reading_before s source table tokens tree =
    let a = answering_before s source table tokens tree in
    record {
      answer = a;
      tokens = token_words One source table tokens;
      tree = tree_words tree (records_of (grammar_before s source table)) a;
    }

-- the contract of before
pub record ConformsBefore (s : Symbol) (source table : List ℕ) (tokens tree : ℕ) (r : Answer) (tokens' tree' : List ℕ)
    : Type 0 where
  pub answers : r ≡ (reading_before s source table tokens tree).answer
  pub tokened : tokens' ≡ (reading_before s source table tokens tree).tokens
  pub treed : tree' ≡ (reading_before s source table tokens tree).tree
