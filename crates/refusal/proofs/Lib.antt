pub mod Laws
pub mod NumberLaws
pub mod SizeLaws
