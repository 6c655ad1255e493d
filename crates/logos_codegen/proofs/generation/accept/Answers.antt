use Rattle.std.proofs.Common.{◌∙◌, Result, Ok, Err, IfOk, IfErr, sym, ap, subst}
use Rattle.logos_type_params.specs.Generics.{generics}
use Rattle.logos_enum.specs.Values.{Slice, ident_slice}
use Rattle.logos_definition.specs.Options.{OptionsView, utf8_mode}
use Rattle.logos_definition.specs.ParserViews.{parser_view}
use Rattle.logos_parser.specs.Analyses.{AnalysisView, HasItsType}
use Rattle.logos_parser.specs.AnalysisViews.{analysis_view}
use Rattle.logos_parser.specs.EnumTypes.{enum_type}
use Rattle.logos_parser.specs.Refusals.{Refuses}
use Rattle.logos_codegen.specs.Source.{IsRefused}
use Rattle.logos_codegen.specs.declared.generation.EnumHead.{EnumHead}
use Rattle.logos_codegen.specs.inside.Heads.{HeadHasItsType, IsHeadOf}
use Rattle.logos_codegen.specs.inside.Steps.{AreGraphFaults, IsFaultless, IsGraphMade}
use Rattle.logos_codegen.proofs.RefusalLemmas.{ends_refuses}
use Rattle.logos_codegen.proofs.GraphLemmas.{graph_refuses, graph_made}
use Rattle.logos_codegen.proofs.generation.accept.Goals as goal

-- a property of a result by two facts about it
together : {T E : Type 0} (result : Result T E) (P Q R : T → Type 0) → ((x : T) → P x → Q x → R x) → IfOk result P → IfOk result Q → IfOk result R
together (Ok x) P Q R by p q = by x p q
together (Err e) P Q R by p q = tt

-- the same of an error
by_error : {T E : Type 0} (result : Result T E) (P Q : E → Type 0) → ((e : E) → P e → Q e) → IfErr result P → IfErr result Q
by_error (Ok x) P Q by p = tt
by_error (Err e) P Q by p = by e p

-- the type of an analysis is that of its head
typed : (analysis : AnalysisView) (head : EnumHead) → IsHeadOf analysis head → HasItsType analysis.name analysis.options analysis.this → HeadHasItsType head
typed analysis head is e =
    is.same_type ∙ e ∙ ap (λ (n : Slice). enum_type n.text (generics analysis.options.types)) (sym is.same_name)
    ∙ ap (λ (o : OptionsView). enum_type (ident_slice head.name).text (generics o.types)) (sym is.same_options)

pub returns-in-Err-clause-err : goal.returns-in-Err-clause-err
returns-in-Err-clause-err c = ends_refuses c.args.src.now c.in-Err.refusal c.in-Err.ensures.err

pub returns-in-Ok-clause-ok : goal.returns-in-Ok-clause-ok
returns-in-Ok-clause-ok c =
    let read = c.in-Ok.ensures.ok in
    let analysis = c.in-Ok.analysis in
    let made = c.accept_analysis in
    together made.result (λ x. IsFaultless analysis.leaves.items (utf8_mode (parser_view analysis.parser)) analysis.span analysis.parser.errors x.0) (λ x. IsHeadOf (analysis_view analysis) x.1)
    (λ x. IsGraphMade c.args.src.now (ident_slice x.1.name) (parser_view x.1.options) x.0)
    (λ x found head. subst (λ (o : OptionsView). IsGraphMade c.args.src.now (ident_slice x.1.name) o x.0) (sym head.same_options)
    (graph_made c.args.src.now read.enum analysis.span analysis.leaves.items (parser_view analysis.parser) analysis.parser.errors read.reads_as read.enum_reads
    (ident_slice x.1.name) x.0 c.in-Ok.ensures.short c.in-Ok.ensures.shallow (read.is_name ∙ sym head.same_name) found))
    made.ensures.ok made.ensures.head

pub returns-in-Ok-clause-typed : goal.returns-in-Ok-clause-typed
returns-in-Ok-clause-typed c =
    let read = c.in-Ok.ensures.ok in
    let analysis = c.in-Ok.analysis in
    let made = c.accept_analysis in
    together made.result (λ x. IsHeadOf (analysis_view analysis) x.1) (λ x. IsHeadOf (analysis_view analysis) x.1) (λ x. HeadHasItsType x.1)
    (λ x head same. typed (analysis_view analysis) x.1 head read.is_type) made.ensures.head made.ensures.head

pub returns-in-Ok-clause-err : goal.returns-in-Ok-clause-err
returns-in-Ok-clause-err c =
    let read = c.in-Ok.ensures.ok in
    let analysis = c.in-Ok.analysis in
    let made = c.accept_analysis in
    by_error made.result (Refuses (AreGraphFaults analysis.leaves.items (utf8_mode (parser_view analysis.parser)) analysis.span analysis.parser.errors)) (Refuses (IsRefused c.args.src.now))
    (graph_refuses c.args.src.now read.enum analysis.span analysis.leaves.items (parser_view analysis.parser) analysis.parser.errors read.reads_as read.enum_reads
    c.in-Ok.ensures.short c.in-Ok.ensures.shallow) made.ensures.err
