mod OpeningTexts
