-- The request of `logos_cli`, read from its arguments.
use Rattle.std.specs.Prelude.{ℕ, ◌&&◌, ◌==◌, ◌-◌, ◌++◌, List, Bool, Option, Some, None, if◌then◌else◌, option_map, bytes_eq, codes, length, map, not, slice_index, string_bytes}
use Rattle.logos_code.specs.Shapes.{shape_named as code_named}
use Rattle.logos_host.specs.Paths.{file_name}
use Rattle.logos_host.specs.declared.color.Color.{Color}
use Rattle.logos_host.specs.declared.message_format.MessageFormat.{MessageFormat}
use Rattle.logos_options.specs.Arguments.{ArgumentsValue, arguments_of, is_set, setting}
use Rattle.logos_options.specs.Paths.{paths_of}
use Rattle.logos_options.specs.Styles.{style_given}
use Rattle.logos_options.specs.declared.message_style.MessageStyle.{MessageStyle}
use Rattle.logos_options.specs.declared.options.OptionName.{OptionName}
use Rattle.logos_options.specs.declared.options.OptionName.TheVariants as options
use Rattle.logos_options.specs.declared.program.Program.TheVariants.{Cli}
use Rattle.logos_cli.specs.declared.options.Batch.{Batch}
use Rattle.logos_cli.specs.declared.options.ExpandOrder.{ExpandOrder}
use Rattle.logos_cli.specs.declared.options.Request.{Request}
use Rattle.logos_cli.specs.declared.options.Request.TheVariants as requests
use Rattle.logos_tables.specs.declared.shape.Shape.{Shape}
use Rattle.logos_tables.specs.declared.shape.Shape.TheVariants.{Code, Tables}

-- A file to expand: its path, the path of the file for the result, whether that is only compared,
-- the shape of the lexers, the format of messages, whether warnings are denied, and the condition
-- under which messages have colors.
pub record OrderValue : Type 0 where
  pub input : List ℕ
  pub output : Option (List ℕ)
  pub is_check : Bool
  pub shape : Shape
  pub format : MessageFormat
  pub denies : Bool
  pub color : Color

-- A request of `logos_cli`.
pub data Requested : Type 0 where
  requests_help : Requested
  requests_version : Requested
  requests_expansion : (order : OrderValue) → Requested
  requests_each : (orders : List OrderValue) → Requested

-- The shape of lexers with this name.
abbrev pub shape_named : List ℕ → Option Shape
shape_named name = if bytes_eq name (codes "tables") then Some Tables else option_map Code (code_named name)

-- The shape with the given name, or `Tables` if none is given.
abbrev pub named_shape : Option (List ℕ) → Option Shape
named_shape None = Some Tables
named_shape (Some name) = shape_named name

-- A path that ends in `/` is that of a folder.
abbrev pub is_folder : List ℕ → Bool
is_folder path = slice_index path (length path - 1) == 47

-- The order for another file, whose result is written into a folder under the name of that file.
abbrev pub order_into : OrderValue → List ℕ → List ℕ → OrderValue
order_into order folder path = record order { input = path; output = Some (folder ++ file_name path) }

-- The orders for several files, whose results are written into a folder.
abbrev pub orders_into : OrderValue → List ℕ → List (List ℕ) → List OrderValue
orders_into order folder paths = map (order_into order folder) paths

-- The request for a single file.
abbrev pub one_order : OrderValue → Option (List ℕ) → Option Requested
one_order order None = Some (requests_expansion order)
one_order order (Some second) = None

-- The request for a single file, or for all files in the arguments, whose results are written into
-- a folder.
abbrev pub placed : List (List ℕ) → OrderValue → Option (List ℕ) → Option (List ℕ) → Option Requested
placed arguments order None second = one_order order second
placed arguments order (Some output) second =
    if is_folder output then Some (requests_each (orders_into order output (paths_of arguments))) else one_order order second

-- The request to expand files in this shape, with messages in this style. A check needs a file for
-- the result.
abbrev pub shaped_given : List (List ℕ) → ArgumentsValue → List ℕ → MessageStyle → Option Shape → Option Requested
shaped_given arguments parsed input style None = None
shaped_given arguments parsed input style (Some shape) =
    if is_set options.Check parsed.settings && not (is_set options.Output parsed.settings) then None
    else placed arguments
    (record { input = input; output = setting options.Output parsed.settings; is_check = is_set options.Check parsed.settings; shape = shape; format = style.format; denies = is_set options.DenyWarnings parsed.settings; color = style.color })
    (setting options.Output parsed.settings) parsed.second

-- The request to expand files in the given shape, with messages in this style.
abbrev pub file_given : List (List ℕ) → ArgumentsValue → List ℕ → MessageStyle → Option Requested
file_given arguments parsed input style = shaped_given arguments parsed input style (named_shape (setting options.Shape parsed.settings))

abbrev pub style_requested : List (List ℕ) → ArgumentsValue → List ℕ → Option MessageStyle → Option Requested
style_requested arguments parsed input None = None
style_requested arguments parsed input (Some style) = file_given arguments parsed input style

-- The request for the input, if there is one.
abbrev pub order_given : List (List ℕ) → ArgumentsValue → Option (List ℕ) → Option Requested
order_given arguments parsed None = None
order_given arguments parsed (Some input) = style_requested arguments parsed input (style_given parsed.settings)

-- The request for a text, or to expand files.
abbrev pub request_given : List (List ℕ) → ArgumentsValue → Option OptionName → Option Requested
request_given arguments parsed (Some options.Version) = Some requests_version
request_given arguments parsed (Some option) = Some requests_help
request_given arguments parsed None = order_given arguments parsed parsed.first

-- The request of these arguments.
abbrev pub requested_given : List (List ℕ) → Option ArgumentsValue → Option Requested
requested_given arguments None = None
requested_given arguments (Some parsed) = request_given arguments parsed parsed.text

-- The request of a command line, if its arguments are valid.
abbrev pub requested : List (List ℕ) → Option Requested
requested arguments = requested_given arguments (arguments_of Cli arguments)

-- The view of an order.
abbrev pub order_value : ExpandOrder → OrderValue
order_value order = record {
  input = order.input.now;
  output = option_map (λ path. path.now) order.output;
  is_check = order.is_check;
  shape = order.shape;
  format = order.format;
  denies = order.denies;
  color = order.color;
}

-- The views of the orders for several files.
abbrev pub batch_value : Batch → List OrderValue
batch_value batch = orders_into (order_value batch.order) batch.folder.now (paths_of (map string_bytes batch.arguments.now))

-- The view of a request.
abbrev pub request_value : Request → Requested
request_value requests.Help = requests_help
request_value requests.Version = requests_version
request_value (requests.Expand order) = requests_expansion (order_value order)
request_value (requests.ExpandEach batch) = requests_each (batch_value batch)
