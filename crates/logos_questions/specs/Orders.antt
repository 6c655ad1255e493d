-- The request of `logos_show`, read from its arguments.
use Rattle.std.specs.Prelude.{ℕ, List, Option, Some, None, option_map}
use Rattle.logos_answers.specs.Locations.{number_named, location_named}
use Rattle.logos_lines.specs.declared.location.Location.{Location}
use Rattle.logos_options.specs.ArgumentSteps.{OptionValue}
use Rattle.logos_options.specs.Arguments.{ArgumentsValue, arguments_of, settings_value}
use Rattle.logos_options.specs.Styles.{style_given}
use Rattle.logos_options.specs.declared.message_style.MessageStyle.{MessageStyle}
use Rattle.logos_options.specs.declared.options.OptionName.{OptionName}
use Rattle.logos_options.specs.declared.options.OptionName.TheVariants as options
use Rattle.logos_options.specs.declared.program.Program.TheVariants as programs
use Rattle.logos_questions.specs.declared.questions.ShowOrder.{ShowOrder}
use Rattle.logos_questions.specs.declared.questions.Question.{Question}
use Rattle.logos_questions.specs.declared.questions.Question.TheVariants as questions
use Rattle.logos_questions.specs.declared.questions.RequestKind.{RequestKind}
use Rattle.logos_questions.specs.declared.questions.RequestKind.TheVariants.{Help, Version, Show}
use Rattle.logos_questions.specs.declared.questions.ShowRequest.{ShowRequest}

-- A question about the lexers of a file: their leaves; the items of an input, given by its path;
-- the matches from a location of an input; examples for each leaf; at most a number of inputs that
-- together take all edges; whether the lexer of another file, given by its path, is equivalent; a
-- page, written to an argument, with an optional input; or the state diagram of a lexer.
pub data QuestionValue : Type 0 where
  leaves : QuestionValue
  items : (input : List ℕ) → QuestionValue
  matches : (input : List ℕ) → (location : Location) → QuestionValue
  examples : QuestionValue
  inputs : (most : ℕ) → QuestionValue
  comparison : (other : List ℕ) → QuestionValue
  page : (to : List ℕ) → (input : Option (List ℕ)) → QuestionValue
  diagram : QuestionValue

-- A file: its path, the question about its lexers, the given settings, and the style of messages.
pub record OrderValue : Type 0 where
  pub file : List ℕ
  pub question : QuestionValue
  pub settings : List (Option (List ℕ))
  pub style : MessageStyle

-- A request.
pub data Requested : Type 0 where
  requests_help : Requested
  requests_version : Requested
  requests_showing : (order : OrderValue) → Requested

-- The question for at most this many inputs. It takes no second path.
abbrev pub inputs_given : Option ℕ → Option (List ℕ) → Option QuestionValue
inputs_given None input = None
inputs_given (Some most) None = Some (inputs most)
inputs_given (Some most) (Some input) = None

-- The question for the matches from a location of an input.
abbrev pub matches_given : Option Location → Option (List ℕ) → Option QuestionValue
matches_given None input = None
matches_given (Some location) None = None
matches_given (Some location) (Some input) = Some (matches input location)

-- The question for examples. It takes no second path.
abbrev pub examples_given : Option (List ℕ) → Option QuestionValue
examples_given None = Some examples
examples_given (Some input) = None

-- The question for a state diagram. It takes no second path.
abbrev pub diagram_given : Option (List ℕ) → Option QuestionValue
diagram_given None = Some diagram
diagram_given (Some input) = None

-- The question for a comparison with another file.
abbrev pub comparison_given : Option (List ℕ) → Option QuestionValue
comparison_given None = None
comparison_given (Some other) = Some (comparison other)

-- The question of an option, with its value and an optional second path.
abbrev pub question_named : OptionName → List ℕ → Option (List ℕ) → Option QuestionValue
question_named options.Compare word input = comparison_given input
question_named options.Inputs word input = inputs_given (number_named word) input
question_named options.At word input = matches_given (location_named word) input
question_named options.Html word input = Some (page word input)
question_named options.Mermaid word input = diagram_given input
question_named option word input = examples_given input

-- The question about a file. Without an option a second path requests its items.
abbrev pub question_given : Option OptionValue → Option (List ℕ) → Option QuestionValue
question_given None None = Some leaves
question_given None (Some input) = Some (items input)
question_given (Some one) input = question_named one.option one.value input

abbrev pub order_requested : ArgumentsValue → List ℕ → MessageStyle → Option QuestionValue → Option Requested
order_requested arguments file style None = None
order_requested arguments file style (Some question) = Some (requests_showing (record { file = file; question = question; settings = arguments.settings; style = style }))

abbrev pub style_requested : ArgumentsValue → List ℕ → Option MessageStyle → Option Requested
style_requested arguments file None = None
style_requested arguments file (Some style) = order_requested arguments file style (question_given arguments.question arguments.second)

-- The request for a question about a file, if there is one.
abbrev pub order_given : ArgumentsValue → Option (List ℕ) → Option Requested
order_given arguments None = None
order_given arguments (Some file) = style_requested arguments file (style_given arguments.settings)

-- The request for a text, or for a question about a file.
abbrev pub request_given : ArgumentsValue → Option OptionName → Option Requested
request_given arguments (Some options.Version) = Some requests_version
request_given arguments (Some option) = Some requests_help
request_given arguments None = order_given arguments arguments.first

-- The request of these arguments.
abbrev pub requested_given : Option ArgumentsValue → Option Requested
requested_given None = None
requested_given (Some arguments) = request_given arguments arguments.text

-- The request of a command line, if its arguments are valid.
abbrev pub requested : List (List ℕ) → Option Requested
requested arguments = requested_given (arguments_of programs.Show arguments)

-- The view of a question.
abbrev pub question_value : Question → QuestionValue
question_value questions.Leaves = leaves
question_value (questions.Items input) = items input.now
question_value (questions.Matches input location) = matches input.now location
question_value questions.Examples = examples
question_value (questions.Inputs most) = inputs most
question_value (questions.Comparison other) = comparison other.now
question_value (questions.Page to input) = page to.now (option_map (λ path. path.now) input)
question_value questions.Diagram = diagram

-- The view of an order.
abbrev pub order_value : ShowOrder → OrderValue
order_value order = record { file = order.file.now; question = question_value order.question; settings = settings_value order.settings; style = order.style }

-- The view of a kind of request, with these settings.
abbrev pub kind_value : RequestKind → List (Option (List ℕ)) → Requested
kind_value Help settings = requests_help
kind_value Version settings = requests_version
kind_value (Show asked) settings = requests_showing (record { file = asked.file.now; question = question_value asked.question; settings = settings; style = asked.style })

-- The view of a request.
abbrev pub request_value : ShowRequest → Requested
request_value request = kind_value request.kind (settings_value request.settings)
