-- What the kit's rule of an argument becomes where one of the argument's fields is set.
use Rattle.std.proofs.Common.{◌≡◌, ◌∙◌, ◌∷◌, [], Option, Some, ap, ap₂, false, true}
use Rattle.std.specs.Borrow.{Bor}
use Rattle.clap.specs.Words.{Rule, Text, new_rule, rule_of}
use Rattle.clap.specs.declared.builder.action.ArgAction.{ArgAction}
use Rattle.clap.specs.declared.builder.arg.Arg.{Arg}
use Rattle.clap.specs.declared.builder.texts.Texts.TheVariants.{One}
use Rattle.clap.specs.declared.builder.value_parser.ValueParser.{ValueParser}
use Rattle.command_settings.specs.Usage.{named_rule}

pub named : (new long help : Arg) (id text : Bor Text) → rule_of new ≡ new_rule id.now → long ≡ record new { long = Some id } → help ≡ record long { help = Some text }
    → rule_of help ≡ named_rule id.now
named new long help id text new_is long_is help_is = ap rule_of help_is ∙ (ap rule_of long_is ∙ ap (λ (r : Rule). record r { long = Some id.now }) new_is)

pub acted : (a b : Arg) (r : Rule) (action : ArgAction) → rule_of a ≡ r → b ≡ record a { action = Some action } → rule_of b ≡ record r { action = Some action }
acted a b r action a_is b_is = ap rule_of b_is ∙ ap (λ (r : Rule). record r { action = Some action }) a_is

pub valued : (a b : Arg) (r : Rule) (unit : Bor Text) → rule_of a ≡ r → b ≡ record a { val_names = One unit } → rule_of b ≡ record r { value_names = 1 }
valued a b r unit a_is b_is = ap rule_of b_is ∙ ap (λ (r : Rule). record r { value_names = 1 }) a_is

pub required : (a b : Arg) (r : Rule) → rule_of a ≡ r → b ≡ record a { required = true } → rule_of b ≡ record r { required = true }
required a b r a_is b_is = ap rule_of b_is ∙ ap (λ (r : Rule). record r { required = true }) a_is

pub filed : (new given help : Arg) (r : Rule) (text : Bor Text) → rule_of new ≡ r → given ≡ record new { required = true } → help ≡ record given { help = Some text }
    → rule_of help ≡ record r { required = true }
filed new given help r text new_is given_is help_is = ap rule_of help_is ∙ required new given r new_is given_is

pub parsed : (a b d : Arg) (r : Rule) (parser : ValueParser) (default : Bor Text) → rule_of a ≡ r → b ≡ record a { value_parser = b.value_parser } → b.value_parser ≡ Some parser
    → d ≡ record b { default_vals = One default } → rule_of d ≡ record r { defaults = default.now ∷ []; parser = Some parser }
parsed a b d r parser default a_is b_is parser_is d_is =
    ap rule_of d_is ∙ ap (λ (r : Rule). record r { defaults = default.now ∷ [] }) (ap rule_of b_is ∙ ap₂ (λ (r : Rule) (p : Option ValueParser). record r { parser = p }) a_is parser_is)

-- none of these makes an argument global

pub named_local : (new long help : Arg) (id text : Bor Text) → new.global ≡ false → long ≡ record new { long = Some id } → help ≡ record long { help = Some text } → help.global ≡ false
named_local new long help id text local long_is help_is = ap (λ (a : Arg). a.global) help_is ∙ (ap (λ (a : Arg). a.global) long_is ∙ local)

pub acted_local : (a b : Arg) (action : ArgAction) → a.global ≡ false → b ≡ record a { action = Some action } → b.global ≡ false
acted_local a b action local b_is = ap (λ (a : Arg). a.global) b_is ∙ local

pub valued_local : (a b : Arg) (unit : Bor Text) → a.global ≡ false → b ≡ record a { val_names = One unit } → b.global ≡ false
valued_local a b unit local b_is = ap (λ (a : Arg). a.global) b_is ∙ local

pub required_local : (a b : Arg) → a.global ≡ false → b ≡ record a { required = true } → b.global ≡ false
required_local a b local b_is = ap (λ (a : Arg). a.global) b_is ∙ local

pub filed_local : (new given help : Arg) (text : Bor Text) → new.global ≡ false → given ≡ record new { required = true } → help ≡ record given { help = Some text } → help.global ≡ false
filed_local new given help text local given_is help_is = ap (λ (a : Arg). a.global) help_is ∙ required_local new given local given_is

pub parsed_local : (a b d : Arg) (default : Bor Text) → a.global ≡ false → b ≡ record a { value_parser = b.value_parser } → d ≡ record b { default_vals = One default } → d.global ≡ false
parsed_local a b d default local b_is d_is = ap (λ (a : Arg). a.global) d_is ∙ (ap (λ (a : Arg). a.global) b_is ∙ local)
