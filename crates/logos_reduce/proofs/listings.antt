pub mod ListLemmas
pub mod RisingLemmas
