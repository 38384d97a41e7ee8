-- A word that is a keyword has that keyword's kind; any other is none of those that begin as it does.
use mathlib.Core.Path.{sym, ◌∙◌}
use Rattle.quanta_token.specs.Keywords.{word_kind}
use Rattle.quanta_token.specs.Text.{bytes, same, kind_if}
use Rattle.quanta_token.proofs.SpellLaws.{kind_of, no_kind, begins, no_keyword}
use Rattle.quanta_token.proofs.keyword.keyword_kind.Goals as goal

pub returns-in-81 : goal.returns-in-81
unfolding word_kind kind_if same
returns-in-81 c = kind_of c.args.word.now (bytes "Quorum") c.if-same.ensures

pub returns-in_default : goal.returns-in_default
unfolding begins
returns-in_default c = sym (no_kind 81 _ (sym c.peek.ensures ∙ c.in-81.is) (tt, c.if-same.ensures))

pub returns-in-97 : goal.returns-in-97
unfolding word_kind kind_if same
returns-in-97 c = kind_of c.args.word.now (bytes "after") c.if-same-2.ensures

pub returns-in-97-2 : goal.returns-in-97-2
unfolding word_kind kind_if same
returns-in-97-2 c = kind_of c.args.word.now (bytes "asset") c.if-same-3.ensures

pub returns-in_default-2 : goal.returns-in_default-2
unfolding begins
returns-in_default-2 c =
    sym (no_kind 97 _ (sym c.peek.ensures ∙ c.in-97.is) ((tt, c.if-same-2.ensures), c.if-same-3.ensures))

pub returns-in-98 : goal.returns-in-98
unfolding word_kind kind_if same
returns-in-98 c = kind_of c.args.word.now (bytes "burns") c.if-same-4.ensures

pub returns-in-98-2 : goal.returns-in-98-2
unfolding word_kind kind_if same
returns-in-98-2 c = kind_of c.args.word.now (bytes "by") c.if-same-5.ensures

pub returns-in_default-3 : goal.returns-in_default-3
unfolding begins
returns-in_default-3 c =
    sym (no_kind 98 _ (sym c.peek.ensures ∙ c.in-98.is) ((tt, c.if-same-4.ensures), c.if-same-5.ensures))

pub returns-in-99 : goal.returns-in-99
unfolding word_kind kind_if same
returns-in-99 c = kind_of c.args.word.now (bytes "caller") c.if-same-6.ensures

pub returns-in-99-2 : goal.returns-in-99-2
unfolding word_kind kind_if same
returns-in-99-2 c = kind_of c.args.word.now (bytes "checked") c.if-same-7.ensures

pub returns-in-99-3 : goal.returns-in-99-3
unfolding word_kind kind_if same
returns-in-99-3 c = kind_of c.args.word.now (bytes "conserves") c.if-same-8.ensures

pub returns-in-99-4 : goal.returns-in-99-4
unfolding word_kind kind_if same
returns-in-99-4 c = kind_of c.args.word.now (bytes "contract") c.if-same-9.ensures

pub returns-in_default-4 : goal.returns-in_default-4
unfolding begins
returns-in_default-4 c =
    sym (no_kind 99 _ (sym c.peek.ensures ∙ c.in-99.is)
    ((((tt, c.if-same-7.ensures), c.if-same-8.ensures), c.if-same-6.ensures), c.if-same-9.ensures))

pub returns-in-100 : goal.returns-in-100
unfolding word_kind kind_if same
returns-in-100 c = kind_of c.args.word.now (bytes "denies") c.if-same-10.ensures

pub returns-in_default-5 : goal.returns-in_default-5
unfolding begins
returns-in_default-5 c = sym (no_kind 100 _ (sym c.peek.ensures ∙ c.in-100.is) (tt, c.if-same-10.ensures))

pub returns-in-101 : goal.returns-in-101
unfolding word_kind kind_if same
returns-in-101 c = kind_of c.args.word.now (bytes "emit") c.if-same-11.ensures

pub returns-in-101-2 : goal.returns-in-101-2
unfolding word_kind kind_if same
returns-in-101-2 c = kind_of c.args.word.now (bytes "entry") c.if-same-12.ensures

pub returns-in-101-3 : goal.returns-in-101-3
unfolding word_kind kind_if same
returns-in-101-3 c = kind_of c.args.word.now (bytes "event") c.if-same-13.ensures

pub returns-in_default-6 : goal.returns-in_default-6
unfolding begins
returns-in_default-6 c =
    sym (no_kind 101 _ (sym c.peek.ensures ∙ c.in-101.is)
    (((tt, c.if-same-11.ensures), c.if-same-13.ensures), c.if-same-12.ensures))

pub returns-in-102 : goal.returns-in-102
unfolding word_kind kind_if same
returns-in-102 c = kind_of c.args.word.now (bytes "from") c.if-same-14.ensures

pub returns-in_default-7 : goal.returns-in_default-7
unfolding begins
returns-in_default-7 c = sym (no_kind 102 _ (sym c.peek.ensures ∙ c.in-102.is) (tt, c.if-same-14.ensures))

pub returns-in-103 : goal.returns-in-103
unfolding word_kind kind_if same
returns-in-103 c = kind_of c.args.word.now (bytes "genesis") c.if-same-15.ensures

pub returns-in-103-2 : goal.returns-in-103-2
unfolding word_kind kind_if same
returns-in-103-2 c = kind_of c.args.word.now (bytes "guard") c.if-same-16.ensures

pub returns-in_default-8 : goal.returns-in_default-8
unfolding begins
returns-in_default-8 c =
    sym (no_kind 103 _ (sym c.peek.ensures ∙ c.in-103.is) ((tt, c.if-same-15.ensures), c.if-same-16.ensures))

pub returns-in-105 : goal.returns-in-105
unfolding word_kind kind_if same
returns-in-105 c = kind_of c.args.word.now (bytes "import") c.if-same-17.ensures

pub returns-in-105-2 : goal.returns-in-105-2
unfolding word_kind kind_if same
returns-in-105-2 c = kind_of c.args.word.now (bytes "in_asset") c.if-same-18.ensures

pub returns-in-105-3 : goal.returns-in-105-3
unfolding word_kind kind_if same
returns-in-105-3 c = kind_of c.args.word.now (bytes "invariant") c.if-same-19.ensures

pub returns-in_default-9 : goal.returns-in_default-9
unfolding begins
returns-in_default-9 c =
    sym (no_kind 105 _ (sym c.peek.ensures ∙ c.in-105.is)
    (((tt, c.if-same-17.ensures), c.if-same-19.ensures), c.if-same-18.ensures))

pub returns-in-108 : goal.returns-in-108
unfolding word_kind kind_if same
returns-in-108 c = kind_of c.args.word.now (bytes "let") c.if-same-20.ensures

pub returns-in-108-2 : goal.returns-in-108-2
unfolding word_kind kind_if same
returns-in-108-2 c = kind_of c.args.word.now (bytes "limits") c.if-same-21.ensures

pub returns-in_default-10 : goal.returns-in_default-10
unfolding begins
returns-in_default-10 c =
    sym (no_kind 108 _ (sym c.peek.ensures ∙ c.in-108.is) ((tt, c.if-same-21.ensures), c.if-same-20.ensures))

pub returns-in-109 : goal.returns-in-109
unfolding word_kind kind_if same
returns-in-109 c = kind_of c.args.word.now (bytes "meta") c.if-same-22.ensures

pub returns-in-109-2 : goal.returns-in-109-2
unfolding word_kind kind_if same
returns-in-109-2 c = kind_of c.args.word.now (bytes "mints") c.if-same-23.ensures

pub returns-in_default-11 : goal.returns-in_default-11
unfolding begins
returns-in_default-11 c =
    sym (no_kind 109 _ (sym c.peek.ensures ∙ c.in-109.is) ((tt, c.if-same-23.ensures), c.if-same-22.ensures))

pub returns-in-110 : goal.returns-in-110
unfolding word_kind kind_if same
returns-in-110 c = kind_of c.args.word.now (bytes "native") c.if-same-24.ensures

pub returns-in-110-2 : goal.returns-in-110-2
unfolding word_kind kind_if same
returns-in-110-2 c = kind_of c.args.word.now (bytes "now") c.if-same-25.ensures

pub returns-in_default-12 : goal.returns-in_default-12
unfolding begins
returns-in_default-12 c =
    sym (no_kind 110 _ (sym c.peek.ensures ∙ c.in-110.is) ((tt, c.if-same-25.ensures), c.if-same-24.ensures))

pub returns-in-114 : goal.returns-in-114
unfolding word_kind kind_if same
returns-in-114 c = kind_of c.args.word.now (bytes "reads") c.if-same-26.ensures

pub returns-in_default-13 : goal.returns-in_default-13
unfolding begins
returns-in_default-13 c = sym (no_kind 114 _ (sym c.peek.ensures ∙ c.in-114.is) (tt, c.if-same-26.ensures))

pub returns-in-115 : goal.returns-in-115
unfolding word_kind kind_if same
returns-in-115 c = kind_of c.args.word.now (bytes "sealed") c.if-same-27.ensures

pub returns-in-115-2 : goal.returns-in-115-2
unfolding word_kind kind_if same
returns-in-115-2 c = kind_of c.args.word.now (bytes "signed") c.if-same-28.ensures

pub returns-in-115-3 : goal.returns-in-115-3
unfolding word_kind kind_if same
returns-in-115-3 c = kind_of c.args.word.now (bytes "state") c.if-same-29.ensures

pub returns-in_default-14 : goal.returns-in_default-14
unfolding begins
returns-in_default-14 c =
    sym (no_kind 115 _ (sym c.peek.ensures ∙ c.in-115.is)
    (((tt, c.if-same-27.ensures), c.if-same-28.ensures), c.if-same-29.ensures))

pub returns-in-119 : goal.returns-in-119
unfolding word_kind kind_if same
returns-in-119 c = kind_of c.args.word.now (bytes "wrapping") c.if-same-30.ensures

pub returns-in-119-2 : goal.returns-in-119-2
unfolding word_kind kind_if same
returns-in-119-2 c = kind_of c.args.word.now (bytes "writes") c.if-same-31.ensures

pub returns-in_default-15 : goal.returns-in_default-15
unfolding begins
returns-in_default-15 c =
    sym (no_kind 119 _ (sym c.peek.ensures ∙ c.in-119.is) ((tt, c.if-same-30.ensures), c.if-same-31.ensures))

pub returns-in_default-16 : goal.returns-in_default-16
returns-in_default-16 c = sym (no_keyword _ _ (sym c.peek.ensures) c.in_default.in_default-own.rest)
