-- Definitions that contracts cite: those of `Imports`, and those that name types of this crate.
pub use Rattle.logos_cli.specs.Imports.{Appends, FailsBy, IsExpanded, IsRefusedFor, Keeps, Reads, arguments_value, message_of, status_of, texts_of}
pub use Rattle.logos_cli.specs.Orders.{OrderValue, requested, requests_each, batch_value, file_given, is_folder, named_shape, order_given, order_into, order_value, orders_into, placed, request_given, request_value, shape_named}
pub use Rattle.logos_cli.specs.Runs.{AreCarriedOut, AreDenied, AreTouched, IsApart, IsCarriedOut, IsDelivered, IsDenied, IsDeniedOrder, IsDone, IsHarmless, IsOther, IsOwnOutput, IsSettled, IsTouched, MayWrite, has_twins, is_among}
pub use Rattle.logos_cli.specs.inside.BatchFiles.{batch_file_order, orders_of, output_text}
